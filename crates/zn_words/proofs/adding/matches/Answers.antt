use Rattle.std.proofs.Common.{◌∙◌, ap, arith, map, string_bytes, Global}
use Rattle.std.proofs.lemmas.List.{length-map}
use Rattle.std.proofs.lemmas.Result.{IfErr-weaker, IfOk-weaker}
use Rattle.clap.specs.Words.{App, is_simple, matches_of, takes}
use Rattle.zn_words.proofs.KeyWords.{keys_found, keys_taken}
use Rattle.zn_words.proofs.adding.matches.Goals as goal

pub returns-clause-found : goal.returns-clause-found
returns-clause-found c dir keys is =
    let words = map (string_bytes {Z = Global}) c.args.words.now in
    let app = c.in_ok-command.ensures in
    IfOk-weaker c.try_get_matches_from.result _ _
    (λ matches has. keys_found words c.requires matches ((has (ap is_simple app)).0 ∙ ap (λ (a : App). matches_of a words) app) dir keys is)
    c.try_get_matches_from.ensures.matches

pub returns-clause-memory : goal.returns-clause-memory
returns-clause-memory c =
    let words = map (string_bytes {Z = Global}) c.args.words.now in
    let app = c.in_ok-command.ensures in
    IfErr-weaker c.try_get_matches_from.result _ _
    (λ error fails. fails (ap (λ (a : App). takes a words) app ∙ keys_taken words c.requires (simp length-map (omega arith))))
    c.try_get_matches_from.ensures.passes
