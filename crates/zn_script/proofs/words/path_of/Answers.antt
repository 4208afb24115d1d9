use Rattle.std.proofs.Common.{◌≡◌, List, ℕ, Option, None, Some, Bor, sym, subst}
use Rattle.std.specs.Option.{MatchOption}
use Rattle.zn_lines.specs.Grammar.{path_of}
use Rattle.zn_script.proofs.WordValues.{path_is_text}
use Rattle.zn_script.proofs.words.path_of.Goals as goal

pub returns-then-is_path-clause-value : goal.returns-then-is_path-clause-value
returns-then-is_path-clause-value c =
    let word = c.args.word.now in
    let IsIt : Option (Bor (List ℕ)) → Type 0 = λ o. MatchOption o (path_of word ≡ None) (λ path. path_of word ≡ Some path.now) in
    subst IsIt (sym c.ok.ensures.value) (path_is_text _ word c.from_utf8.result (sym (c.if-is_path.ensures {u = tt})) c.from_utf8.ensures.cases)
