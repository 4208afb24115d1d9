-- Maps from names.
use Rattle.std.proofs.Common.{◌≡◌, ◌⊎◌, ◌≢◌, inl, inr, Bool, true, false, cond, ◌&&◌, List, [], ◌∷◌, Option, Some, None, Ordering, refl, sym, ap, ◌∙◌, arith}
use lib.Dec.{T}
use Rattle.std.specs.Prelude.{IsTrue}
use Rattle.std.specs.declared.cmp.Ordering.TheVariants.{Less, Equal, Greater}
use Rattle.std.specs.List.{filter_map}
use Rattle.std.specs.Option.{option_map, option_and_then}
use Rattle.std.specs.Ordering.{is_eq, eq_by_cmp}
use Rattle.std.specs.FinMap.{get, insert, entries, entries_sorted, get-entries, get-insert, get-from_entries, same_map, slice_cmp-IsAntisymmetric, nat_cmp-IsAntisymmetric, find, is_sorted}
use Rattle.std.specs.FinMap.Entries.{below_all}
use Rattle.std.proofs.lemmas.Cmp.{nat_list_cmp_total, tied_itself}
use Rattle.zn_stand.specs.Maps.{Name, name_cmp, NameMap, mapped}

-- ---- names

-- two names tie where they are one
tie_is : (a b : Name) (r : Ordering) → name_cmp a b ≡ r → ((a ≡ b) × (eq_by_cmp name_cmp a b ≡ true)) ⊎ ((a ≢ b) × (eq_by_cmp name_cmp a b ≡ false))
tie_is a b Equal is = inl (slice_cmp-IsAntisymmetric nat_cmp-IsAntisymmetric a b is, ap is_eq is)
tie_is a b Less is = inr (λ same. absurd (apart (sym is ∙ ap (name_cmp a) (sym same) ∙ tied_itself nat_list_cmp_total a)), ap is_eq is)
  where
    apart : Less ≡ Equal → ⊥
    apart e = cc
tie_is a b Greater is = inr (λ same. absurd (apart (sym is ∙ ap (name_cmp a) (sym same) ∙ tied_itself nat_list_cmp_total a)), ap is_eq is)
  where
    apart : Greater ≡ Equal → ⊥
    apart e = cc

pub same_name : (a b : Name) → ((a ≡ b) × (eq_by_cmp name_cmp a b ≡ true)) ⊎ ((a ≢ b) × (eq_by_cmp name_cmp a b ≡ false))
same_name a b = tie_is a b (name_cmp a b) refl

module _ {X : Type 0} where
  -- ---- a value in place

  pub at_same : (m : NameMap X) (name : Name) (x : X) → get (insert m name x) name ≡ Some x
  at_same m name x = get-insert nat_list_cmp_total m name x name ∙ ap (λ r. cond (is_eq r) (Some x) (get m name)) (tied_itself nat_list_cmp_total name)

  pub at_other : (m : NameMap X) (name : Name) (x : X) (q : Name) → q ≢ name → get (insert m name x) q ≡ get m q
  at_other m name x q apart = get-insert nat_list_cmp_total m name x q ∙ elim (same_name q name) [
    | inl same ↦ absurd (apart same.0)
    | inr other ↦ ap (λ b. cond b (Some x) (get m q)) other.1
  ]

  pub maps_same : (m n : NameMap X) → ((q : Name) → get m q ≡ get n q) → m ≡ n
  maps_same m n is = same_map nat_list_cmp_total (slice_cmp-IsAntisymmetric nat_cmp-IsAntisymmetric) m n is

  -- ---- each value by itself

  find_below : (q : Name) (es : List (Name × X)) → IsTrue (below_all name_cmp q es) → find name_cmp q es ≡ None
  find_below q [] h = refl
  find_below q (e ∷ es) h = grind (arith, find_below q es)

  find_tie : (q x : Name) (es : List (Name × X)) → eq_by_cmp name_cmp q x ≡ true → IsTrue (below_all name_cmp x es) → find name_cmp q es ≡ None
  find_tie q x es tie below = elim (same_name q x) [
    | inl same ↦ ap (λ n. find name_cmp n es) same.0 ∙ find_below x es below
    | inr other ↦ absurd (cc (tie, other.1))
  ]

test_holds : (b : Bool) → T b → IsTrue b
test_holds true t = refl
test_holds false t = absurd t

both_true : (a b : Bool) → IsTrue (a && b) → IsTrue a × IsTrue b
both_true true b h = (refl, h)
both_true false b h = absurd (cc)

module _ {X Y : Type 0} (g : X → Option Y) where
  abbrev entry_of : Name × X → Option (Name × Y)
  entry_of e = option_map (λ y. (e.0, y)) (g e.1)

  -- the first entry, then the others
  mapped_first : (q : Name) (e : Name × X) (es : List (Name × X)) (o : Option Y) (b : Bool) → g e.1 ≡ o → eq_by_cmp name_cmp q e.0 ≡ b → IsTrue (below_all name_cmp e.0 es)
      → find name_cmp q (filter_map entry_of es) ≡ option_and_then g (find name_cmp q es) → find name_cmp q (filter_map entry_of (e ∷ es)) ≡ option_and_then g (find name_cmp q (e ∷ es))
  mapped_first q e es (Some y) true is tie below rest = grind (arith)
  mapped_first q e es None true is tie below rest = let none : find name_cmp q es ≡ None = find_tie q e.0 es tie below in grind (arith)
  mapped_first q e es (Some y) false is tie below rest = grind (arith)
  mapped_first q e es None false is tie below rest = grind (arith)

  find_mapped : (q : Name) (es : List (Name × X)) → IsTrue (is_sorted name_cmp es) → find name_cmp q (filter_map entry_of es) ≡ option_and_then g (find name_cmp q es)
  find_mapped q [] h = refl
  find_mapped q (e ∷ es) h =
      let parts = both_true (below_all name_cmp e.0 es) (is_sorted name_cmp es) h in
      mapped_first q e es (g e.1) (eq_by_cmp name_cmp q e.0) refl refl parts.0 (find_mapped q es parts.1)

  pub get-mapped : (m : NameMap X) (q : Name) → get (mapped g m) q ≡ option_and_then g (get m q)
  get-mapped m q = get-from_entries nat_list_cmp_total (filter_map entry_of (entries m)) q ∙ find_mapped q (entries m) (test_holds _ (entries_sorted m)) ∙ ap (option_and_then g) (sym (get-entries m q))
