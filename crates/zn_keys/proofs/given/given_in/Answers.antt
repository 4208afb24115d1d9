use Rattle.std.proofs.Common.{map, sym, ◌∙◌, arith}
use Rattle.std.proofs.lemmas.Grind.{common_steps}
use Rattle.std.proofs.lemmas.List.{at_drop_all}
use Rattle.zn_keys.proofs.GivenWords.{given_with, given_words}
use Rattle.zn_keys.proofs.given.given_in.Goals as goal

pub returns-in_err-setting_of : goal.returns-in_err-setting_of
returns-in_err-setting_of g c = let all = given_words (map g.S.AsStr.text c.args.words.now) in grind (arith, common_steps)

pub returns-in_err-given : goal.returns-in_err-given
returns-in_err-given g c = let all = given_words (map g.S.AsStr.text c.args.words.now) in grind (arith, common_steps)

pub returns : goal.returns
returns g c =
    sym (at_drop_all (λ ws. given_with c.loop-word.given (map g.S.AsStr.text ws)) c.args.words.now c.loop-word.word-index (omega arith))
    ∙ c.loop-word.invariant ∙ given_words (map g.S.AsStr.text c.args.words.now)
