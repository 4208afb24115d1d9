-- Names that rise.
use Rattle.std.proofs.Common.{◌≡◌, ℕ, zero, suc, ◌<◌, List, [], ◌∷◌, ◌++◌, length, map, get_or, String, Global, sym, subst, arith}
use Rattle.std.specs.List.{AllByRecursion}
use Rattle.std.specs.List.Sorted.{IsStrictlySortedBy}
use Rattle.std.specs.String.{string_bytes, string_cmp}
use Rattle.std.specs.declared.cmp.Ordering.TheVariants.{Less}
use Rattle.zn_stand.specs.Maps.{Name, name_cmp}

-- all keys of a map are below one that comes behind
bytes_of_all : (P : Name → Type 0) (keys : List (String Global)) → AllByRecursion (λ k. P (string_bytes k)) keys → AllByRecursion P (map string_bytes keys)
bytes_of_all P [] all = tt
bytes_of_all P (k ∷ keys) all = (all.0, bytes_of_all P keys all.1)

pub names_rise : (keys : List (String Global)) → IsStrictlySortedBy string_cmp keys → IsStrictlySortedBy name_cmp (map string_bytes keys)
unfolding IsStrictlySortedBy
names_rise [] order = tt
names_rise (k ∷ keys) order = (bytes_of_all (λ n. name_cmp (string_bytes k) n ≡ Less) keys order.0, names_rise keys order.1)

at_middle : (P : Name → Type 0) (front : List Name) (n : Name) (rest : List Name) → AllByRecursion P (front ++ n ∷ rest) → P n
at_middle P [] n rest all = all.0
at_middle P (m ∷ front) n rest all = at_middle P front n rest all.1

front_at : (front : List Name) (n : Name) (rest : List Name) → IsStrictlySortedBy name_cmp (front ++ n ∷ rest) → (k : ℕ) (d : Name) → k < length front → name_cmp (get_or front k d) n ≡ Less
unfolding IsStrictlySortedBy
front_at [] n rest order k d h = absurd (omega arith)
front_at (m ∷ front) n rest order zero d h = at_middle (λ o. name_cmp m o ≡ Less) front n rest order.0
front_at (m ∷ front) n rest order (suc k) d h = front_at front n rest order.1 k d (omega arith)

pub front_below : (keys : List (String Global)) (front : List Name) (n : Name) (rest : List Name) → IsStrictlySortedBy string_cmp keys → front ++ n ∷ rest ≡ map string_bytes keys → (k : ℕ) (d : Name) → k < length front → name_cmp (get_or front k d) n ≡ Less
front_below keys front n rest order is = front_at front n rest (subst (IsStrictlySortedBy name_cmp) (sym is) (names_rise keys order))
