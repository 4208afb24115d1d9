use Rattle.std.proofs.Common.{◌≡◌, length, string_bytes, rules, tests}
use Rattle.std.specs.List.{list_all}
use Rattle.std.proofs.lemmas.List.{length-map}
use Rattle.std.proofs.lemmas.List.Folds.{list_all-map}
use Rattle.std.proofs.lemmas.Bool.{eq-eqb}
use Rattle.std.proofs.lemmas.Iterator.{YieldsList-from_slice}
use Rattle.std.proofs.lemmas.Iterator.Search.{all_from_yields_List}
use Rattle.zn_words.specs.Parts.{is_value}
use Rattle.zn_words.proofs.values.are_values.Goals as goal

pub returns-then-words-count : goal.returns-then-words-count
returns-then-words-count c =
    let words = c.args.words.now in
    let all : c.all.result ≡ list_all (λ w. is_value (string_bytes w)) words =
    all_from_yields_List (λ w. is_value (string_bytes w)) _ _ c.all.result c.all.ensures.ran (YieldsList-from_slice words cc) (λ x b q k. search (rules, tests)) in
    let count = eq-eqb (length words) c.args.count c.if-words-count.true in
    simp (length-map, list_all-map) (rw count all)
