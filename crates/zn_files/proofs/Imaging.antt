-- An image, file by file.
use Rattle.std.proofs.lemmas.Cmp.{nat_list_cmp_total, tied_itself}
use Rattle.std.proofs.lemmas.Option.{same_Some}
use Rattle.std.proofs.Common.{◌≡◌, ◌≢◌, inl, inr, ℕ, cond, List, [], ◌∷◌, map, Option, Some, None, String, Global, refl, sym, ap, ◌∙◌, subst}
use Rattle.std.specs.BTreeMap.{is_at}
use Rattle.std.specs.Cmp.Lexicographic.{slice_cmp}
use Rattle.std.specs.FinMap.{empty, insert, get-empty}
use Rattle.std.specs.List.{AllByRecursion}
use Rattle.std.specs.List.Sorted.{IsStrictlySortedBy}
use Rattle.std.specs.Map.{lookup}
use Rattle.std.specs.Option.{option_map, option_and_then}
use Rattle.std.specs.Ordering.{is_eq, nat_cmp}
use Rattle.std.specs.String.{string_bytes, string_cmp}
use Rattle.std.specs.declared.cmp.Ordering.TheVariants.{Less}
use Rattle.zn_stand.specs.File.{File, at_rest}
use Rattle.zn_stand.specs.Maps.{Name, name_cmp}
use Rattle.zn_stand.specs.Calls.{Call}
use Rattle.zn_stand.specs.Directory.{Directory, file_at, rested}
use Rattle.zn_stand.proofs.NameMaps.{same_name, at_same, at_other, maps_same, get-mapped}
use Rattle.zn_stand.proofs.Directories.{file-rested}
use Rattle.zn_files.specs.declared.images.Choice.{Choice}
use Rattle.zn_files.specs.declared.traced.Traced.{Traced}
use Rattle.zn_files.specs.MemStates.{MemState}
use Rattle.zn_files.specs.Images.{left_by, image_by}
use Rattle.zn_files.specs.Traces.{Traces, TraceMap, TracesAt, TracesAll}

-- the traces of the files of a list, by name
abbrev pub look : Name → List (String Global × Traced) → Option Traced
look q es = lookup (is_at (λ k. slice_cmp nat_cmp q (string_bytes k))) es

-- What an image is while it is made: it has none of the files that wait, nor any that isn't there, and of each other
-- what the choice leaves of it.
pub record IsPartImage (choice : Choice) (all left : List (String Global × Traced)) (image : Directory) : Type 0 where
  pub order : IsStrictlySortedBy string_cmp (map (λ e. e.0) left)
  pub within : (q : Name) (t : Traced) → look q left ≡ Some t → look q all ≡ Some t
  pub waiting : (q : Name) (t : Traced) → look q left ≡ Some t → file_at image q ≡ None
  pub absent : (q : Name) → look q all ≡ None → file_at image q ≡ None
  pub done : (q : Name) (t : Traced) (f : File) → look q all ≡ Some t → look q left ≡ None → Traces t f → file_at image q ≡ option_map at_rest (left_by choice f)

pub part_first : (choice : Choice) (all left : List (String Global × Traced)) (image : Directory) → left ≡ all → IsStrictlySortedBy string_cmp (map (λ e. e.0) all) → image ≡ empty → IsPartImage choice all left image
part_first choice all left image same order is = record {
  order = subst (λ (es : List (String Global × Traced)). IsStrictlySortedBy string_cmp (map (λ e. e.0) es)) (sym same) order;
  within = λ q t there. ap (look q) (sym same) ∙ there;
  waiting = λ q t there. nothing q;
  absent = λ q none. nothing q;
  done = λ q t f there none traces. absurd (cc (there, none, ap (look q) same));
}
  where
    nothing : (q : Name) → file_at image q ≡ None
    nothing q = ap (λ d. file_at d q) is ∙ get-empty name_cmp q

-- ---- the first of those that wait

look_first : (k : String Global) (t : Traced) (left : List (String Global × Traced)) → look (string_bytes k) ((k, t) ∷ left) ≡ Some t
look_first k t left = ap (λ r. cond (is_eq r) (Some t) (look (string_bytes k) left)) (tied_itself nat_list_cmp_total (string_bytes k))

look_other : (q : Name) (k : String Global) (t : Traced) (left : List (String Global × Traced)) → q ≢ string_bytes k → look q ((k, t) ∷ left) ≡ look q left
look_other q k t left apart = elim (same_name q (string_bytes k)) [
  | inl same ↦ absurd (apart same.0)
  | inr other ↦ ap (λ b. cond b (Some t) (look q left)) other.1
]

look_below : (k : String Global) (left : List (String Global × Traced)) → AllByRecursion (λ y. string_cmp k y ≡ Less) (map (λ e. e.0) left) → look (string_bytes k) left ≡ None
look_below k [] all = refl
look_below k (e ∷ left) all = ap (λ r. cond (is_eq r) (Some e.1) (look (string_bytes k) left)) all.0 ∙ look_below k left all.1

first_order : (k : String Global) (t : Traced) (rest : List (String Global × Traced)) → IsStrictlySortedBy string_cmp (map (λ e. e.0) ((k, t) ∷ rest)) → (look (string_bytes k) rest ≡ None) × IsStrictlySortedBy string_cmp (map (λ e. e.0) rest)
unfolding IsStrictlySortedBy
first_order k t rest order = (look_below k rest order.0, order.1)

-- one file more, of which this is left
module _ (choice : Choice) (all rest : List (String Global × Traced)) (k : String Global) (t : Traced) (image new : Directory) (part : IsPartImage choice all ((k, t) ∷ rest) image) where
  none_left : look (string_bytes k) rest ≡ None
  none_left = (first_order k t rest part.order).0

  in_all : look (string_bytes k) all ≡ Some t
  in_all = part.within (string_bytes k) t (look_first k t rest)

  differs : (q : Name) (u : Traced) → look q rest ≡ Some u → q ≢ string_bytes k
  differs q u there same = absurd (cc (there, none_left, ap (λ n. look n rest) same))

  pub part_more : (o : Option (List ℕ)) → ((f : File) → Traces t f → left_by choice f ≡ o) → file_at new (string_bytes k) ≡ option_map at_rest o → ((q : Name) → q ≢ string_bytes k → file_at new q ≡ file_at image q)
      → IsPartImage choice all rest new
  part_more o left here others = record {
    order = (first_order k t rest part.order).1;
    within = λ q u there. part.within q u (look_other q k t rest (differs q u there) ∙ there);
    waiting = λ q u there. others q (differs q u there) ∙ part.waiting q u (look_other q k t rest (differs q u there) ∙ there);
    absent = λ q none. others q (λ same. absurd (cc (none, in_all, ap (λ n. look n all) same))) ∙ part.absent q none;
    done = λ q u f there none traces. elim (same_name q (string_bytes k)) [
      | inl same ↦
          let is : t ≡ u = same_Some t u (sym in_all ∙ ap (λ n. look n all) (sym same.0) ∙ there) in
          ap (file_at new) same.0 ∙ here ∙ ap (option_map at_rest) (sym (left f (subst (λ (x : Traced). Traces x f) (sym is) traces)))
      | inr other ↦ others q other.0 ∙ part.done q u f there (look_other q k t rest other.0 ∙ none) traces
    ];
  }

-- nothing of it is left
pub part_skipped : (choice : Choice) (all rest : List (String Global × Traced)) (k : String Global) (t : Traced) (image : Directory) → IsPartImage choice all ((k, t) ∷ rest) image → ((f : File) → Traces t f → left_by choice f ≡ None) → IsPartImage choice all rest image
part_skipped choice all rest k t image part left = part_more choice all rest k t image image part None left (part.waiting (string_bytes k) t (look_first k t rest)) (λ q apart. refl)

-- bytes of it are left
pub part_given : (choice : Choice) (all rest : List (String Global × Traced)) (k : String Global) (t : Traced) (image new : Directory) (bytes : List ℕ) → IsPartImage choice all ((k, t) ∷ rest) image → ((f : File) → Traces t f → left_by choice f ≡ Some bytes)
    → new ≡ insert image (string_bytes k) (at_rest bytes) → IsPartImage choice all rest new
part_given choice all rest k t image new bytes part left is = part_more choice all rest k t image new part (Some bytes) left
    (ap (λ d. file_at d (string_bytes k)) is ∙ at_same image (string_bytes k) (at_rest bytes))
    (λ q apart. ap (λ d. file_at d q) is ∙ at_other image (string_bytes k) (at_rest bytes) q apart)

-- a file that waits isn't there yet
pub part_absent : (choice : Choice) (all rest : List (String Global × Traced)) (k : String Global) (t : Traced) (image : Directory) → IsPartImage choice all ((k, t) ∷ rest) image → file_at image (string_bytes k) ≡ None
part_absent choice all rest k t image part = part.waiting (string_bytes k) t (look_first k t rest)

-- ---- the whole image

pub part_last : (choice : Choice) (traces : TraceMap) (left : List (String Global × Traced)) (image : Directory) → left ≡ [] → IsPartImage choice traces.entries left image → (d : Directory) → TracesAll traces d → image ≡ rested (image_by choice d)
part_last choice traces left image none part d all = maps_same image (rested (image_by choice d)) (λ q.
    at q (look q traces.entries) (file_at d q) refl refl (all q) ∙ sym (file-rested (image_by choice d) q ∙ ap (option_map at_rest) (get-mapped (left_by choice) d q)))
  where
    at : (q : Name) (u : Option Traced) (o : Option File) → look q traces.entries ≡ u → file_at d q ≡ o → TracesAt u o → file_at image q ≡ option_map at_rest (option_and_then (left_by choice) (file_at d q))
    at q None None there is traces = part.absent q there ∙ sym (ap (λ x. option_map at_rest (option_and_then (left_by choice) x)) is)
    at q None (Some f) there is traces = absurd traces
    at q (Some t) None there is traces = absurd traces
    at q (Some t) (Some f) there is traces = part.done q t f there (ap (look q) none) traces ∙ sym (ap (λ x. option_map at_rest (option_and_then (left_by choice) x)) is)

-- ---- nothing but what was given

abbrev pub only_given : List Call → MemState
only_given given = record { given = given; made = []; listed = []; calls = 0; faults = 0 }

pub fresh_state : (s : MemState) (given : List Call) → s ≡ only_given given → s ≡ only_given s.given
fresh_state s given is = is ∙ ap only_given (sym (ap (λ (x : MemState). x.given) is))

pub fresh_after : (old new : MemState) → old ≡ only_given old.given → new ≡ record old { given = new.given } → new ≡ only_given new.given
fresh_after old new fresh same = same ∙ ap (λ (o : MemState). record o { given = new.given }) fresh
