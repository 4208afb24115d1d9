-- The names of a store are those of its directory.
use Rattle.std.proofs.Common.{◌≡◌, ℕ, Bool, true, false, cond, ◌&&◌, List, [], ◌∷◌, map, Option, Some, String, Global, refl, sym, ap, ◌∙◌, subst}
use lib.Dec.{T}
use Rattle.std.specs.BTreeMap as tree
use Rattle.std.specs.BTreeMap.{is_at}
use Rattle.std.specs.Cmp.Lexicographic.{slice_cmp}
use Rattle.std.specs.FinMap.{keys, entries, entries_sorted, get-entries, find, is_sorted, slice_cmp-IsAntisymmetric, nat_cmp-IsAntisymmetric}
use Rattle.std.specs.FinMap.Entries.{below_all, same_entries}
use Rattle.std.specs.Global.{Vec}
use Rattle.std.specs.List.{AllByRecursion}
use Rattle.std.specs.List.Sorted.{IsStrictlySortedBy}
use Rattle.std.specs.Map.{lookup}
use Rattle.std.specs.Option.{option_map}
use Rattle.std.specs.Ordering.{is_lt, nat_cmp, eq_by_cmp}
use Rattle.std.specs.String.{string_bytes, string_cmp}
use Rattle.std.specs.declared.cmp.Ordering.TheVariants.{Less}
use Rattle.std.proofs.lemmas.Cmp.{nat_list_cmp_total}
use Rattle.zn_stand.specs.File.{File}
use Rattle.zn_stand.specs.Maps.{Name, name_cmp}
use Rattle.zn_stand.specs.Directory.{Directory}
use Rattle.zn_files.specs.Stores.{Store, HoldsFiles}

test_of : (b : Bool) → b ≡ true → T b
test_of true is = tt
test_of false is = absurd (cc)

-- ---- the files of a directory, with their bytes

below_files : (q : Name) (es : List (Name × File)) → below_all name_cmp q (map (λ e. (e.0, e.1.bytes)) es) ≡ below_all name_cmp q es
below_files q [] = refl
below_files q (e ∷ es) = ap (λ b. is_lt (name_cmp q e.0) && b) (below_files q es)

sorted_files : (es : List (Name × File)) → is_sorted name_cmp (map (λ e. (e.0, e.1.bytes)) es) ≡ is_sorted name_cmp es
sorted_files [] = refl
sorted_files (e ∷ es) = λ i. below_files e.0 es i && sorted_files es i

each_by : (b : Bool) (f : File) (o : Option File) (p : Option (List ℕ)) → p ≡ option_map (λ f. f.bytes) o → cond b (Some f.bytes) p ≡ option_map (λ f. f.bytes) (cond b (Some f) o)
each_by true f o p is = refl
each_by false f o p is = is

find_files : (q : Name) (es : List (Name × File)) → find name_cmp q (map (λ e. (e.0, e.1.bytes)) es) ≡ option_map (λ f. f.bytes) (find name_cmp q es)
find_files q [] = refl
find_files q (e ∷ es) = each_by (eq_by_cmp name_cmp q e.0) e.1 (find name_cmp q es) (find name_cmp q (map (λ e. (e.0, e.1.bytes)) es)) (find_files q es)

-- ---- the files of a store

abbrev stored_entry : String Global × Vec ℕ → Name × List ℕ
stored_entry e = (string_bytes e.0, e.1.items)

below_stored : (k : String Global) (es : List (String Global × Vec ℕ)) → AllByRecursion (λ y. string_cmp k y ≡ Less) (map (λ e. e.0) es) → below_all name_cmp (string_bytes k) (map stored_entry es) ≡ true
below_stored k [] all = refl
below_stored k (e ∷ es) all = ap (λ r. is_lt r && below_all name_cmp (string_bytes k) (map stored_entry es)) all.0 ∙ below_stored k es all.1

sorted_stored : (es : List (String Global × Vec ℕ)) → IsStrictlySortedBy string_cmp (map (λ e. e.0) es) → is_sorted name_cmp (map stored_entry es) ≡ true
unfolding IsStrictlySortedBy
sorted_stored [] order = refl
sorted_stored (e ∷ es) order = ap (λ b. b && is_sorted name_cmp (map stored_entry es)) (below_stored e.0 es order.0) ∙ sorted_stored es order.1

each_stored : (b : Bool) (v : Vec ℕ) (o : Option (Vec ℕ)) (p : Option (List ℕ)) → p ≡ option_map (λ x. x.items) o → cond b (Some v.items) p ≡ option_map (λ x. x.items) (cond b (Some v) o)
each_stored true v o p is = refl
each_stored false v o p is = is

find_stored : (q : Name) (es : List (String Global × Vec ℕ)) → find name_cmp q (map stored_entry es) ≡ option_map (λ v. v.items) (lookup (is_at (λ k. slice_cmp nat_cmp q (string_bytes k))) es)
find_stored q [] = refl
find_stored q (e ∷ es) = each_stored (eq_by_cmp name_cmp q (string_bytes e.0)) e.1 (lookup (is_at (λ k. slice_cmp nat_cmp q (string_bytes k))) es) (find name_cmp q (map stored_entry es)) (find_stored q es)

-- ---- their names

stored_names : (es : List (String Global × Vec ℕ)) → map (λ e. e.0) (map stored_entry es) ≡ map string_bytes (map (λ e. e.0) es)
stored_names [] = refl
stored_names (e ∷ es) = ap (λ l. string_bytes e.0 ∷ l) (stored_names es)

file_names : (es : List (Name × File)) → map (λ (e : Name × List ℕ). e.0) (map (λ (e : Name × File). (e.0, e.1.bytes)) es) ≡ map (λ e. e.0) es
file_names [] = refl
file_names (e ∷ es) = ap (λ l. e.0 ∷ l) (file_names es)

pub names_held : (store : Store) (d : Directory) → tree.IsOrdered string_cmp store → HoldsFiles store d → map string_bytes (tree.keys store) ≡ keys d
names_held store d order holds =
    let same = same_entries name_cmp nat_list_cmp_total (slice_cmp-IsAntisymmetric nat_cmp-IsAntisymmetric) (map stored_entry store.entries) (map (λ (e : Name × File). (e.0, e.1.bytes)) (entries d)) (test_of _ (sorted_stored store.entries order)) (subst T (sym (sorted_files (entries d))) (entries_sorted d))
    (λ q. find_stored q store.entries ∙ holds q ∙ ap (option_map (λ (f : File). f.bytes)) (get-entries d q) ∙ sym (find_files q (entries d))) in
    sym (stored_names store.entries) ∙ ap (map (λ (e : Name × List ℕ). e.0)) same ∙ file_names (entries d)
