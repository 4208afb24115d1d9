use Rattle.std.proofs.Common.{ap, map, string_bytes, refl, ◌≡◌, ◌∙◌, Option, Some, None, IsSome, Global}
use Rattle.std.proofs.lemmas.Result.{IfErr-weaker, IfOk-weaker}
use Rattle.clap.specs.Words.{App, is_simple, matches_of, takes}
use Rattle.zn_words.specs.Parts.{given_in}
use Rattle.zn_words.proofs.Rules.{command_simple}
use Rattle.zn_words.proofs.Placing.{words_found, words_taken}
use Rattle.zn_words.proofs.places.matches.Goals as goal

pub returns-clause-found : goal.returns-clause-found
returns-clause-found c given is =
    let words = map (string_bytes {Z = Global}) c.args.words.now in
    let flags = c.args.flags.now in
    let name = c.args.name.now in
    let app = c.in_ok-command.ensures in
    IfOk-weaker c.try_get_matches_from.result _ _
    (λ found has. words_found name flags words given is found ((has (ap is_simple app ∙ command_simple name flags)).0 ∙ ap (λ (a : App). matches_of a words) app))
    c.try_get_matches_from.ensures.matches

some_given : {X : Type 0} (o : Option X) → IsSome o → (x : X) × (o ≡ Some x)
some_given None there = absurd (cc there)
some_given (Some x) there = (x, refl)

pub returns-clause-memory : goal.returns-clause-memory
returns-clause-memory c =
    let words = map (string_bytes {Z = Global}) c.args.words.now in
    let flags = c.args.flags.now in
    let name = c.args.name.now in
    let app = c.in_ok-command.ensures in
    let given = some_given (given_in flags words) c.requires in
    IfErr-weaker c.try_get_matches_from.result _ _
    (λ error fails. fails (ap (λ (a : App). takes a words) app ∙ words_taken name flags words given.0 given.1))
    c.try_get_matches_from.ensures.passes
