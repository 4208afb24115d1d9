use Rattle.std.proofs.Common.{ap, map, string_bytes, ◌∙◌}
use Rattle.std.proofs.lemmas.Result.{IfErr-weaker, IfOk-weaker}
use Rattle.clap.specs.Words.{App, is_simple, matches_of, takes}
use Rattle.zn_words.proofs.ChurnWords.{values_found, values_taken}
use Rattle.zn_words.proofs.churning.matches.Goals as goal

pub returns-clause-found : goal.returns-clause-found
returns-clause-found c =
    let words = map string_bytes c.args.words.now in
    let app = c.in_ok-command.ensures in
    IfOk-weaker c.try_get_matches_from.result _ _
    (λ matches has. values_found words matches c.requires ((has (ap is_simple app)).0 ∙ ap (λ (a : App). matches_of a words) app))
    c.try_get_matches_from.ensures.matches

pub returns-clause-memory : goal.returns-clause-memory
returns-clause-memory c =
    let words = map string_bytes c.args.words.now in
    let app = c.in_ok-command.ensures in
    IfErr-weaker c.try_get_matches_from.result _ _
    (λ error fails. fails (ap (λ (a : App). takes a words) app ∙ values_taken words c.requires))
    c.try_get_matches_from.ensures.passes
