-- Names in order.
use Rattle.std.proofs.Common.{◌≡◌, ◌⊎◌, inl, inr, ℕ, zero, suc, ◌+◌, ◌-◌, ◌<◌, ◌≤◌, Bool, true, false, List, [], ◌∷◌, length, map, get_or, Ordering, Global, String, refl, sym, ap, ◌∙◌, subst, arith}
use Rattle.std.specs.Prelude.{Contains, ◌≢◌}
use Rattle.std.specs.List.{insert}
use Rattle.std.specs.List.Sorted.{IsPartitionedBy, IsPartitionPoint}
use Rattle.std.specs.Ordering.{is_lt, ordering_reverse}
use Rattle.std.specs.String.{string_bytes}
use Rattle.std.specs.declared.cmp.Ordering.TheVariants.{Less, Equal, Greater}
use Rattle.std.proofs.lemmas.Bool.Decides.{nat_tests}
use Rattle.std.proofs.lemmas.Cmp.{nat_list_cmp_total}
use Rattle.std.proofs.lemmas.List.{get_or-map, length-map, places}
use Rattle.std.proofs.lemmas.List.Edits.{length-insert, get_or-insert_below, get_or-insert_at, get_or-insert_above}
use Rattle.std.proofs.lemmas.List.Elements.{Contains-get_or}
use Rattle.zn_stand.specs.Maps.{Name, name_cmp}
use Rattle.zn_stand.proofs.NameMaps.{same_name}
use Rattle.zn_files.specs.Names.{IsInOrder, with_name}

less : (a b : Name) → is_lt (name_cmp a b) ≡ true → name_cmp a b ≡ Less
less a b lt = by_case (name_cmp a b) refl lt
  where
    by_case : (r : Ordering) → name_cmp a b ≡ r → is_lt r ≡ true → r ≡ Less
    by_case Less is lt = refl
    by_case Equal is lt = absurd (cc)
    by_case Greater is lt = absurd (cc)

-- a name that is neither below another nor that one is above it
above : (a b : Name) → is_lt (name_cmp a b) ≡ false → a ≢ b → name_cmp b a ≡ Less
above a b not_lt apart = by_case (name_cmp a b) refl not_lt
  where
    by_case : (r : Ordering) → name_cmp a b ≡ r → is_lt r ≡ false → name_cmp b a ≡ Less
    by_case Less is not_lt = absurd (cc)
    by_case Equal is not_lt = elim (same_name a b) [
      | inl same ↦ absurd (apart same.0)
      | inr other ↦ absurd (cc (other.1, is))
    ]
    by_case Greater is not_lt = nat_list_cmp_total.antisymm b a ∙ ap ordering_reverse is

-- where one name goes among others
pub with_name_at : (names : List Name) (name : Name) (i : ℕ) → i ≤ length names → ((k : ℕ) → k < i → is_lt (name_cmp (get_or names k []) name) ≡ true) → (i < length names → is_lt (name_cmp (get_or names i []) name) ≡ false)
    → insert names i name ≡ with_name name names
with_name_at [] name i le below behind = grind (arith, places)
with_name_at (n ∷ names) name zero le below behind = grind (arith, behind (omega arith))
with_name_at (n ∷ names) name (suc i) le below behind =
    let rest = with_name_at names name i (omega arith) (λ k h. below (suc k) (omega arith)) (λ h. behind (omega arith)) in
    grind (arith, below 0 (omega arith))

-- one more name in its place leaves them in order
pub insert_order : (names : List Name) (name : Name) (p : ℕ) → p ≤ length names → IsInOrder names → ((k : ℕ) → k < p → name_cmp (get_or names k []) name ≡ Less) → ((k : ℕ) → p ≤ k → k < length names → name_cmp name (get_or names k []) ≡ Less)
    → IsInOrder (insert names p name)
insert_order names name p le order below behind i j lt within = elim (place_of i) [
  | inl first ↦ elim (place_of j) [
    | inl second ↦ at i j _ _ (get_or-insert_below names p name [] i first le) (get_or-insert_below names p name [] j second le) (order i j lt (omega arith))
    | inr (inl second) ↦ at i j _ _ (get_or-insert_below names p name [] i first le) (here j second) (below i first)
    | inr (inr second) ↦ at i j _ _ (get_or-insert_below names p name [] i first le) (beyond j second) (order i (j - 1) (omega arith) (omega (arith, length-insert names p name le)))
  ]
  | inr (inl first) ↦ at i j _ _ (here i first) (beyond j (omega arith)) (behind (j - 1) (omega arith) (omega (arith, length-insert names p name le)))
  | inr (inr first) ↦ at i j _ _ (beyond i first) (beyond j (omega arith)) (order (i - 1) (j - 1) (omega arith) (omega (arith, length-insert names p name le)))
]
  where
    place_of : (k : ℕ) → (k < p) ⊎ ((k ≡ p) ⊎ (p < k))
    place_of k = grind (arith, nat_tests)

    here : (k : ℕ) → k ≡ p → get_or (insert names p name) k [] ≡ name
    here k is = ap (λ n. get_or (insert names p name) n []) is ∙ get_or-insert_at names p name [] le

    beyond : (k : ℕ) → p < k → get_or (insert names p name) k [] ≡ get_or names (k - 1) []
    beyond k lt =
        let same : k ≡ (k - 1) + 1 = omega arith in
        ap (λ n. get_or (insert names p name) n []) same ∙ get_or-insert_above names p name [] (k - 1) (omega arith) le

    at : (i j : ℕ) (a b : Name) → get_or (insert names p name) i [] ≡ a → get_or (insert names p name) j [] ≡ b → name_cmp a b ≡ Less → name_cmp (get_or (insert names p name) i []) (get_or (insert names p name) j []) ≡ Less
    at i j a b first second is = ap (λ x. name_cmp x (get_or (insert names p name) j [])) first ∙ ap (name_cmp a) second ∙ is

-- ---- names as they are kept

abbrev pub is_below : Name → String Global → Bool
is_below name x = is_lt (name_cmp (string_bytes x) name)

name_at : (xs : List (String Global)) (k : ℕ) (d : String Global) → k < length xs → get_or (map string_bytes xs) k [] ≡ string_bytes (get_or xs k d)
name_at xs k d h = get_or-map string_bytes xs k d [] h

-- those below a name come first
pub order_parted : (xs : List (String Global)) (name : Name) → IsInOrder (map string_bytes xs) → IsPartitionedBy (is_below name) xs
order_parted xs name order i j d le within lt = elim (same_or_less i j le) [
  | inl same ↦ ap (λ n. is_below name (get_or xs n d)) same ∙ lt
  | inr before ↦
      let up : name_cmp (string_bytes (get_or xs i d)) (string_bytes (get_or xs j d)) ≡ Less =
      ap (λ n. name_cmp n (string_bytes (get_or xs j d))) (sym (name_at xs i d (omega arith))) ∙ ap (name_cmp (get_or (map string_bytes xs) i [])) (sym (name_at xs j d within)) ∙ order i j before (omega (arith, length-map xs string_bytes)) in
      ap is_lt (nat_list_cmp_total.trans (string_bytes (get_or xs i d)) (string_bytes (get_or xs j d)) name up (less (string_bytes (get_or xs j d)) name lt))
]
  where
    same_or_less : (i j : ℕ) → i ≤ j → (i ≡ j) ⊎ (i < j)
    same_or_less i j le = grind (arith, nat_tests)

map-insert : (xs : List (String Global)) (i : ℕ) (x : String Global) → map string_bytes (insert xs i x) ≡ insert (map string_bytes xs) i (string_bytes x)
map-insert [] zero x = refl
map-insert [] (suc i) x = refl
map-insert (y ∷ xs) zero x = refl
map-insert (y ∷ xs) (suc i) x = ap (λ l. string_bytes y ∷ l) (map-insert xs i x)

-- a name that isn't there, put where those that aren't below it begin
module _ (xs : List (String Global)) (x : String Global) (name : Name) (i : ℕ) (is : string_bytes x ≡ name) (le : i ≤ length xs) (order : IsInOrder (map string_bytes xs)) (fresh : ¬ Contains (map string_bytes xs) name)
    (point : IsPartitionPoint (λ y. is_below name y ≡ true) (λ y. is_below name y ≡ false) xs i) where
  within_map : i ≤ length (map string_bytes xs)
  within_map = omega (arith, length-map xs string_bytes)

  below : (k : ℕ) → k < i → is_lt (name_cmp (get_or (map string_bytes xs) k []) name) ≡ true
  below k h = ap (λ n. is_lt (name_cmp n name)) (name_at xs k x (omega arith)) ∙ point.0 k x (omega arith) h

  behind : (k : ℕ) → i ≤ k → k < length (map string_bytes xs) → is_lt (name_cmp (get_or (map string_bytes xs) k []) name) ≡ false
  behind k from h = let inside : k < length xs = omega (arith, length-map xs string_bytes) in ap (λ n. is_lt (name_cmp n name)) (name_at xs k x inside) ∙ point.1 k x from inside

  pub added_name : map string_bytes (insert xs i x) ≡ with_name name (map string_bytes xs)
  added_name = map-insert xs i x ∙ ap (insert (map string_bytes xs) i) is ∙ with_name_at (map string_bytes xs) name i within_map below (λ h. behind i (omega arith) h)

  pub added_order : IsInOrder (map string_bytes (insert xs i x))
  added_order = subst IsInOrder (sym (map-insert xs i x ∙ ap (insert (map string_bytes xs) i) is)) (insert_order (map string_bytes xs) name i within_map order
      (λ k h. less (get_or (map string_bytes xs) k []) name (below k h))
      (λ k from h. above (get_or (map string_bytes xs) k []) name (behind k from h) (λ same. fresh (subst (Contains (map string_bytes xs)) same (Contains-get_or (map string_bytes xs) k [] h)))))
