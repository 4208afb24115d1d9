-- Runs of conventional zones.
use Rattle.std.proofs.Common.{◌≡◌, ℕ, ◌+◌, ◌<◌, ◌≤◌, true, false, List, length, get_or, drop, refl, sym, ap, ◌∙◌, length-drop, arith}
use Rattle.std.specs.List.{prefix_len}
use Rattle.std.proofs.lemmas.List.{get_or-drop, length-take-le}
use Rattle.std.proofs.lemmas.List.Sums.{prefix_len-le-length, prefix_len-drop_yes, prefix_len_passes, prefix_len_stops}
use Rattle.zn_truth.specs.declared.Kind.{Kind}
use Rattle.zn_truth.specs.declared.Kind.TheVariants.{Conventional, Sequential}
use Rattle.zn_model.specs.ZoneFiles.{is_conventional, run_length}

pub conventional_is : (kind : Kind) → is_conventional kind ≡ true → kind ≡ Conventional
conventional_is Conventional h = refl
conventional_is Sequential h = absurd (cc)

run_is : (kinds : List Kind) (z : ℕ) → run_length kinds z ≡ prefix_len is_conventional (drop z kinds)
run_is kinds z = length-take-le (prefix_len is_conventional (drop z kinds)) (drop z kinds) (prefix_len-le-length is_conventional (drop z kinds))

-- a run ends where the zones do, or before
pub run_inside : (kinds : List Kind) (z : ℕ) → z ≤ length kinds → z + run_length kinds z ≤ length kinds
run_inside kinds z inside = omega (arith, run_is kinds z, prefix_len-le-length is_conventional (drop z kinds), length-drop z kinds)

-- each of its zones is conventional
pub run_kinds : (kinds : List Kind) (z i : ℕ) → i < run_length kinds z → get_or kinds (z + i) Sequential ≡ Conventional
run_kinds kinds z i within =
    sym (get_or-drop z kinds i Sequential)
    ∙ conventional_is (get_or (drop z kinds) i Sequential) (prefix_len_passes is_conventional (drop z kinds) i Sequential (omega (arith, run_is kinds z)))

-- one that begins at a conventional zone has that zone
pub run_some : (kinds : List Kind) (z : ℕ) → z < length kinds → is_conventional (get_or kinds z Sequential) ≡ true → 1 ≤ run_length kinds z
run_some kinds z inside is = omega (arith, run_is kinds z, prefix_len-drop_yes is_conventional kinds z Sequential inside is)

-- the zone behind it isn't conventional
pub run_stops : (kinds : List Kind) (z : ℕ) → z + run_length kinds z < length kinds → is_conventional (get_or kinds (z + run_length kinds z) Sequential) ≡ false
run_stops kinds z more =
    let n = prefix_len is_conventional (drop z kinds) in
    let same : run_length kinds z ≡ n = run_is kinds z in
    ap (λ k. is_conventional (get_or kinds (z + k) Sequential)) same
    ∙ ap is_conventional (sym (get_or-drop z kinds n Sequential))
    ∙ prefix_len_stops is_conventional (drop z kinds) Sequential (omega (arith, same, length-drop z kinds))
