-- Blocks in their order.
use Rattle.std.proofs.Common.{◌≡◌, ℕ, zero, suc, ◌+◌, ◌<◌, ◌≤◌, cond, [], ◌∷◌, ◌++◌, length, get_or, set, map, All, refl, sym, ap, ◌∙◌, arith, inl, inr, subst}
use Rattle.std.proofs.lemmas.Bool.{cases_eq, eq-eqb, ne_eqb}
use Rattle.std.proofs.lemmas.List.{same_lists, length-set, get_or-set_other, get_or-set_same}
use Rattle.std.proofs.lemmas.List.FromFn.{length-range_with_len, get_or-range_with_len, length-map-range_with_len, get_or-map-range_with_len}
use Rattle.std.specs.List.{range_with_len}
use Rattle.zn_pool.proofs.Times.{times, times-cons}

-- one more number
pub range-push : (a n : ℕ) → range_with_len a (n + 1) ≡ range_with_len a n ++ (a + n) ∷ []
range-push a zero = let here : a ≡ a + zero = omega arith in ap (λ x. x ∷ []) here
range-push a (suc n) =
    let step : suc n + 1 ≡ suc (n + 1) = omega arith in
    let last : a + 1 + n ≡ a + suc n = omega arith in
    ap (range_with_len a) step ∙ ap (λ rest. a ∷ rest) (range-push (a + 1) n ∙ ap (λ x. range_with_len (a + 1) n ++ x ∷ []) last)

-- each is there once
times-range_past : (x a n : ℕ) → x < a → times x (range_with_len a n) ≡ 0
times-range_past x a zero before = refl
times-range_past x a (suc n) before =
    let other = ap {B = ℕ} (λ t. cond t 1 0) (ne_eqb a x (λ same. omega arith)) in
    omega (arith, other, times-cons x a (range_with_len (a + 1) n), times-range_past x (a + 1) n (omega arith))

pub times-range : (x a n : ℕ) → times x (range_with_len a n) ≤ 1
times-range x a zero = omega arith
times-range x a (suc n) =
    elim (cases_eq a x) [
      | inl same ↦
          let here = ap {B = ℕ} (λ t. cond t 1 0) (eq-eqb a x same) in
          omega (arith, here, times-cons x a (range_with_len (a + 1) n), times-range_past x (a + 1) n (omega arith))
      | inr other ↦
          let here = ap {B = ℕ} (λ t. cond t 1 0) (ne_eqb a x other) in
          omega (arith, here, times-cons x a (range_with_len (a + 1) n), times-range x (a + 1) n)
    ]

-- each is below the end
pub below-range : (n : ℕ) → All (λ b. b < n) (range_with_len 0 n)
below-range n k d inside =
    let within : k < n = omega (arith, length-range_with_len 0 n) in
    omega (arith, get_or-range_with_len 0 n k d within)

-- a list by a function of the index, where the function changes at one index
pub map_range-set : {X : Type 0} (f g : ℕ → X) (n k : ℕ) → k < n → ((j : ℕ) → j < n → (j ≡ k → ⊥) → g j ≡ f j) → map g (range_with_len 0 n) ≡ set (map f (range_with_len 0 n)) k (g k)
map_range-set f g n k within others =
    let before = map f (range_with_len 0 n) in
    let long = length-map-range_with_len f 0 n in
    let same_long : length (map g (range_with_len 0 n)) ≡ length (set before k (g k)) = omega (arith, long, length-map-range_with_len g 0 n, length-set before k (g k)) in
    same_lists (map g (range_with_len 0 n)) (set before k (g k)) same_long
    (λ j d inside.
    let below : j < n = omega (arith, length-map-range_with_len g 0 n) in
    let here = get_or-map-range_with_len g 0 n j j d below (omega arith) in
    elim (cases_eq j k) [
      | inl same ↦ here ∙ ap g same ∙ sym (subst (λ i. get_or (set before k (g k)) i d ≡ g k) (sym same) (get_or-set_same before k (g k) d (omega (arith, long))))
      | inr other ↦ here ∙ others j below other ∙ sym (get_or-set_other before k j (g k) d other ∙ get_or-map-range_with_len f 0 n j j d below (omega arith))
    ])
