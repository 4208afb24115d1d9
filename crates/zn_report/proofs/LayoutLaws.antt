-- What the files of a layout are.
use Rattle.std.proofs.Common.{◌≡◌, ℕ, ◌+◌, ◌-◌, ◌<◌, ◌≤◌, Bool, true, false, not, cond, eqb, ltb, List, [], ◌∷◌, length, map, filter, get_or, All, refl, sym, ap, ◌∙◌, subst, length-append, arith}
use Rattle.std.specs.Prelude.{◌&&◌, ◌||◌}
use Rattle.std.specs.List.{range_with_len}
use Rattle.std.proofs.lemmas.Bool.{ltb-true, and_parts, both_ways, not-true}
use Rattle.std.proofs.lemmas.List.{length-map}
use Rattle.std.proofs.lemmas.List.Elements.{All-filter, All-map, All-append, filter_passes}
use Rattle.std.proofs.lemmas.List.FromFn.{length-range_with_len, get_or-range_with_len}
use Rattle.zn_truth.specs.declared.Kind.{Kind}
use Rattle.zn_truth.specs.declared.Kind.TheVariants.{Conventional, Sequential}
use Rattle.zn_truth.specs.Truth.{is_sequential}
use Rattle.zn_model.specs.ZoneFiles.{Layout, layout_of, is_conventional, begins_cnv, begins_seq, cnv_file, seq_file}
use Rattle.zn_report.specs.Layouts.{IsFileOf, IsLayoutOf}
use Rattle.zn_report.proofs.Walks.{IsWalked, cnv_first, seq_first, first_starts, goes_on, walked_all}
use Rattle.zn_report.proofs.Runs.{conventional_is, run_inside, run_kinds, run_some}

-- what holds of each element that passes a test holds of all that a filter keeps
among : (P Q : ℕ → Type 0) (p : ℕ → Bool) (xs : List ℕ) → ((x : ℕ) → p x ≡ true → Q x → P x) → All Q xs → All P (filter p xs)
among P Q p xs gives all = λ k d inside. gives (get_or (filter p xs) k d) (filter_passes p xs k d inside) (All-filter p Q xs all k d inside)

zone_numbers : (n : ℕ) → All (λ z. z < n) (range_with_len 0 n)
zone_numbers n = λ k d inside.
    let below : k < n = omega (arith, length-range_with_len 0 n) in
    let P : ℕ → Type 0 = λ z. z < n in
    subst P (sym (get_or-range_with_len 0 n k d below)) (omega arith)

sequential_is : (kind : Kind) → is_sequential kind ≡ true → kind ≡ Sequential
sequential_is Sequential h = refl
sequential_is Conventional h = absurd (cc)

seq_is : (kinds : List Kind) (z : ℕ) → begins_seq kinds z ≡ true → z < length kinds → IsFileOf kinds (seq_file z)
seq_is kinds z begins inside =
    let parts = and_parts (ltb 0 z) (is_sequential (get_or kinds z Sequential)) begins in
    record {
      behind = ltb-true 0 z parts.0;
      some = omega arith;
      inside = omega arith;
      single = λ is. refl;
      alike = λ i within. let at : z + i ≡ z = omega arith in ap (λ k. get_or kinds k Sequential) at ∙ sequential_is (get_or kinds z Sequential) parts.1;
    }

cnv_is : (aggr : Bool) (kinds : List Kind) (z : ℕ) → 1 ≤ z → is_conventional (get_or kinds z Sequential) ≡ true → z < length kinds → IsFileOf kinds (cnv_file aggr kinds z)
cnv_is true kinds z behind is inside = record {
  behind = behind;
  some = run_some kinds z inside is;
  inside = run_inside kinds z (omega arith);
  single = λ seq. absurd (both_ways false refl seq);
  alike = λ i within. run_kinds kinds z i within;
}
cnv_is false kinds z behind is inside = record {
  behind = behind;
  some = omega arith;
  inside = omega arith;
  single = λ seq. refl;
  alike = λ i within. let at : z + i ≡ z = omega arith in ap (λ k. get_or kinds k Sequential) at ∙ conventional_is (get_or kinds z Sequential) is;
}

cnv_begun : (aggr : Bool) (kinds : List Kind) (z : ℕ) → begins_cnv aggr kinds z ≡ true → z < length kinds → IsFileOf kinds (cnv_file aggr kinds z)
cnv_begun aggr kinds z begins inside =
    let outer = and_parts (ltb 0 z && is_conventional (get_or kinds z Sequential)) ((not aggr || eqb z 1) || is_sequential (get_or kinds (z - 1) Sequential)) begins in
    let inner = and_parts (ltb 0 z) (is_conventional (get_or kinds z Sequential)) outer.0 in
    cnv_is aggr kinds z (ltb-true 0 z inner.0) inner.1 inside

-- a zone begins one file at most
apart : (aggr : Bool) (kinds : List Kind) (z : ℕ) → begins_cnv aggr kinds z ≡ true → begins_seq kinds z ≡ true → ⊥
apart aggr kinds z cnv seq =
    let outer = and_parts (ltb 0 z && is_conventional (get_or kinds z Sequential)) ((not aggr || eqb z 1) || is_sequential (get_or kinds (z - 1) Sequential)) cnv in
    let inner = and_parts (ltb 0 z) (is_conventional (get_or kinds z Sequential)) outer.0 in
    let sequential = and_parts (ltb 0 z) (is_sequential (get_or kinds z Sequential)) seq in
    both_ways (is_sequential (get_or kinds z Sequential)) (not-true (is_sequential (get_or kinds z Sequential)) inner.1) sequential.1

-- of two tests that no element passes both
kept_once : (a b : Bool) (x : ℕ) (kept left : List ℕ) (n : ℕ) → (a ≡ true → b ≡ true → ⊥) → length kept + length left ≤ n → length (cond a (x ∷ kept) kept) + length (cond b (x ∷ left) left) ≤ n + 1
kept_once true true x kept left n never most = absurd (never refl refl)
kept_once true false x kept left n never most = omega arith
kept_once false true x kept left n never most = omega arith
kept_once false false x kept left n never most = omega arith

kept_both : (p q : ℕ → Bool) (xs : List ℕ) → ((x : ℕ) → p x ≡ true → q x ≡ true → ⊥) → length (filter p xs) + length (filter q xs) ≤ length xs
kept_both p q [] never = omega arith
kept_both p q (x ∷ xs) never = omega (arith, kept_once (p x) (q x) x (filter p xs) (filter q xs) (length xs) (never x) (kept_both p q xs never))

pub layout_is : (kinds : List Kind) (aggr : Bool) → IsLayoutOf kinds (layout_of kinds aggr)
unfolding layout_of
layout_is kinds aggr =
    let numbers = range_with_len 0 (length kinds) in
    let cnv = filter (begins_cnv aggr kinds) numbers in
    let seq = filter (begins_seq kinds) numbers in
    let all = zone_numbers (length kinds) in
    record {
      files = All-append (IsFileOf kinds) (map (cnv_file aggr kinds) cnv) (map seq_file seq)
          (All-map (IsFileOf kinds) (cnv_file aggr kinds) cnv (among (λ z. IsFileOf kinds (cnv_file aggr kinds z)) (λ z. z < length kinds) (begins_cnv aggr kinds) numbers (λ z begins inside. cnv_begun aggr kinds z begins inside) all))
          (All-map (IsFileOf kinds) seq_file seq (among (λ z. IsFileOf kinds (seq_file z)) (λ z. z < length kinds) (begins_seq kinds) numbers (λ z begins inside. seq_is kinds z begins inside) all));
      cnv = All-map (λ file. file.seq ≡ false) (cnv_file aggr kinds) cnv (λ k d inside. refl);
      seq = All-map (λ file. file.seq ≡ true) seq_file seq (λ k d inside. refl);
      count = omega (arith, length-append (map (cnv_file aggr kinds) cnv) (map seq_file seq), length-map cnv (cnv_file aggr kinds), length-map seq seq_file, kept_both (begins_cnv aggr kinds) (begins_seq kinds) numbers (λ z a b. apart aggr kinds z a b), length-range_with_len 0 (length kinds));
    }

-- the same of what a walk over all zones found
pub walked_is : (aggr : Bool) (kinds : List Kind) (z : ℕ) (layout : Layout) → IsWalked aggr kinds z layout → length kinds ≤ z → IsLayoutOf kinds layout
walked_is aggr kinds z layout so_far end = subst (λ (l : Layout). IsLayoutOf kinds l) (sym (walked_all aggr kinds z layout so_far end)) (layout_is kinds aggr)

-- how a walk begins, goes on and ends
pub ruleset walk_laws = (cnv_first, seq_first, first_starts, goes_on, walked_all, walked_is)
