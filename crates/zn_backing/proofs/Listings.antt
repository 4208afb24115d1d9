-- Listings of names, and directories that are synced by them.
use Rattle.std.proofs.Common.{◌≡◌, ◌⊎◌, ◌≢◌, inl, inr, ℕ, zero, suc, ◌+◌, ◌-◌, ◌<◌, ◌≤◌, Bool, true, false, cond, ◌&&◌, ◌||◌, List, [], ◌∷◌, ◌++◌, length, map, take, drop, get_or, Option, Some, None, Ordering, refl, sym, ap, ◌∙◌, subst, arith}
use lib.Dec.{T}
use Rattle.std.specs.Prelude.{IsSome, is_some}
use Rattle.std.specs.List.{list_any}
use Rattle.std.specs.Option.{option_map}
use Rattle.std.specs.Ordering.{eq_by_cmp, is_lt, is_eq, ordering_reverse}
use Rattle.std.specs.FinMap.{get, keys, entries, entries_sorted, from_sorted, get-from_sorted, entries-from_sorted, get-entries, find, is_sorted, contains_key-keys}
use Rattle.std.specs.FinMap.Entries.{below_all}
use Rattle.std.specs.declared.cmp.Ordering.TheVariants.{Less, Equal, Greater}
use Rattle.std.proofs.lemmas.Cmp.{nat_list_cmp_total, tied_itself}
use Rattle.std.proofs.lemmas.Bool.{cases_order}
use Rattle.std.proofs.lemmas.List.{take_more}
use Rattle.zn_stand.specs.File.{File, at_rest, synced}
use Rattle.zn_stand.specs.Maps.{Name, name_cmp}
use Rattle.zn_stand.specs.Directory.{Directory, Contents, file_at, bytes_at, contents, rested}
use Rattle.zn_stand.specs.Calls.{SyncFile, made, changed}
use Rattle.zn_stand.proofs.NameMaps.{same_name, maps_same}
use Rattle.zn_stand.proofs.Directories.{changed_same, changed_other, bytes-contents, file-rested}
use Rattle.zn_backing.specs.Listing.{is_among}
use Rattle.zn_backing.specs.Steps.{all_synced}

-- ---- a name among names in order

among_at : (names : List Name) (name : Name) (i : ℕ) → i < length names → get_or names i [] ≡ name → is_among names name ≡ true
among_at [] name i within is = absurd (omega arith)
among_at (first ∷ names) name zero within is = elim (same_name name first) [
  | inl same ↦ ap (λ b. b || is_among names name) same.1
  | inr other ↦ absurd (other.0 (sym is))
]
among_at (first ∷ names) name (suc i) within is = or_true (eq_by_cmp name_cmp name first) (among_at names name i (omega arith) is)
  where
    or_true : (b : Bool) → is_among names name ≡ true → (b || is_among names name) ≡ true
    or_true true h = refl
    or_true false h = h

not_among : (names : List Name) (name : Name) → ((i : ℕ) → i < length names → get_or names i [] ≢ name) → is_among names name ≡ false
not_among [] name apart = refl
not_among (first ∷ names) name apart = elim (same_name name first) [
  | inl same ↦ absurd (apart 0 (omega arith) (sym same.0))
  | inr other ↦ ap (λ b. b || is_among names name) other.1 ∙ not_among names name (λ i h. apart (suc i) (omega arith))
]

pub found_among : (names : List Name) (name : Name) (i : ℕ) → i < length names → get_or names i [] ≡ name → true ≡ is_among names name
found_among names name i within is = sym (among_at names name i within is)

less_apart : (a b : Name) → name_cmp a b ≡ Less → a ≢ b
less_apart a b less same = absurd (cc (less, ap (name_cmp a) (sym same), tied_itself nat_list_cmp_total a))

-- a name whose place is known, and that doesn't stand there, is nowhere
pub none_among : (names : List Name) (name : Name) (at : ℕ) → ((k : ℕ) → k < at → name_cmp (get_or names k []) name ≡ Less) → ((k : ℕ) → at ≤ k → k < length names → name_cmp (get_or names k []) name ≢ Less)
    → ((i j : ℕ) → i < j → j < length names → name_cmp (get_or names i []) (get_or names j []) ≡ Less) → (at < length names → get_or names at [] ≢ name) → false ≡ is_among names name
none_among names name at below above order apart = sym (not_among names name each)
  where
    each : (i : ℕ) → i < length names → get_or names i [] ≢ name
    each i within same = elim (cases_order i at) [
      | inl equal ↦ apart (omega arith) (ap (λ k. get_or names k []) (sym equal) ∙ same)
      | inr rest ↦ elim rest [
        | inl less ↦ less_apart (get_or names i []) name (below i less) same
        | inr more ↦ above at (omega arith) (omega arith) (subst (λ n. name_cmp (get_or names at []) n ≡ Less) same (order at i more within))
      ]
    ]

-- the step of a search: where the middle name is below, so are those before it
pub all_below : (names : List Name) (name : Name) (middle : ℕ) → middle < length names → ((i j : ℕ) → i < j → j < length names → name_cmp (get_or names i []) (get_or names j []) ≡ Less) → is_lt (name_cmp (get_or names middle []) name) ≡ true
    → (k : ℕ) → k < middle + 1 → name_cmp (get_or names k []) name ≡ Less
all_below names name middle within order lt k h = elim (cases_order k middle) [
  | inl equal ↦ ap (λ i. name_cmp (get_or names i []) name) equal ∙ less (name_cmp (get_or names middle []) name) lt
  | inr rest ↦ elim rest [
    | inl before ↦ nat_list_cmp_total.trans (get_or names k []) (get_or names middle []) name (order k middle before within) (less (name_cmp (get_or names middle []) name) lt)
    | inr after ↦ absurd (omega arith)
  ]
]
  where
    less : (r : Ordering) → is_lt r ≡ true → r ≡ Less
    less Less lt = refl
    less Equal lt = absurd (cc)
    less Greater lt = absurd (cc)

-- and where it isn't, neither are those behind it
pub none_below : (names : List Name) (name : Name) (middle : ℕ) → ((i j : ℕ) → i < j → j < length names → name_cmp (get_or names i []) (get_or names j []) ≡ Less) → is_lt (name_cmp (get_or names middle []) name) ≡ false
    → (k : ℕ) → middle ≤ k → k < length names → name_cmp (get_or names k []) name ≢ Less
none_below names name middle order not_lt k from within less = elim (cases_order middle k) [
  | inl equal ↦ absurd (cc (ap (λ i. is_lt (name_cmp (get_or names i []) name)) equal, ap is_lt less, not_lt))
  | inr rest ↦ elim rest [
    | inl before ↦ absurd (cc (ap is_lt (nat_list_cmp_total.trans (get_or names middle []) (get_or names k []) name (order middle k before within) less), not_lt))
    | inr after ↦ absurd (omega arith)
  ]
]

-- ---- the names of what a directory holds

below_bytes : (q : Name) (es : List (Name × File)) → below_all name_cmp q (map (λ (e : Name × File). (e.0, e.1.bytes)) es) ≡ below_all name_cmp q es
below_bytes q [] = refl
below_bytes q (e ∷ es) = ap (λ b. is_lt (name_cmp q e.0) && b) (below_bytes q es)

sorted_bytes : (es : List (Name × File)) → is_sorted name_cmp (map (λ (e : Name × File). (e.0, e.1.bytes)) es) ≡ is_sorted name_cmp es
sorted_bytes [] = refl
sorted_bytes (e ∷ es) = λ i. below_bytes e.0 es i && sorted_bytes es i

each_bytes : (b : Bool) (f : File) (o : Option File) (p : Option (List ℕ)) → p ≡ option_map (λ f. f.bytes) o → cond b (Some f.bytes) p ≡ option_map (λ f. f.bytes) (cond b (Some f) o)
each_bytes true f o p is = refl
each_bytes false f o p is = is

find_bytes : (q : Name) (es : List (Name × File)) → find name_cmp q (map (λ (e : Name × File). (e.0, e.1.bytes)) es) ≡ option_map (λ f. f.bytes) (find name_cmp q es)
find_bytes q [] = refl
find_bytes q (e ∷ es) = each_bytes (eq_by_cmp name_cmp q e.0) e.1 (find name_cmp q es) (find name_cmp q (map (λ (e : Name × File). (e.0, e.1.bytes)) es)) (find_bytes q es)

names_kept : (es : List (Name × File)) → map (λ (e : Name × List ℕ). e.0) (map (λ (e : Name × File). (e.0, e.1.bytes)) es) ≡ map (λ (e : Name × File). e.0) es
names_kept [] = refl
names_kept (e ∷ es) = ap (λ l. e.0 ∷ l) (names_kept es)

-- the contents of a directory have its names
pub keys-contents : (d : Directory) → keys (contents d) ≡ keys d
keys-contents d =
    let es : List (Name × List ℕ) = map (λ (e : Name × File). (e.0, e.1.bytes)) (entries d) in
    let order : T (is_sorted name_cmp es) = subst T (sym (sorted_bytes (entries d))) (entries_sorted d) in
    let same : from_sorted {R = name_cmp} es ≡ contents d = maps_same (from_sorted {R = name_cmp} es) (contents d)
    (λ q. get-from_sorted name_cmp es q order ∙ find_bytes q (entries d) ∙ ap (option_map (λ (f : File). f.bytes)) (sym (get-entries d q)) ∙ sym (bytes-contents d q)) in
    ap keys (sym same) ∙ ap (map (λ (e : Name × List ℕ). e.0)) (entries-from_sorted name_cmp es order) ∙ names_kept (entries d)

-- a file of a listed name is there
pub listed_there : (d : Directory) (name : Name) → is_among (keys d) name ≡ true → IsSome (file_at d name)
listed_there d name among = contains_key-keys d name ∙ among

-- ---- a directory that is synced

pub all_synced-more : (d : Directory) (names : List Name) (name : Name) → all_synced d (names ++ name ∷ []) ≡ made (SyncFile name) (all_synced d names)
all_synced-more d [] name = refl
all_synced-more d (first ∷ names) name = all_synced-more (made (SyncFile first) d) names name

synced_twice : (o : Option File) → option_map synced (option_map synced o) ≡ option_map synced o
synced_twice None = refl
synced_twice (Some f) = refl

-- a file is synced where its name is among these
pub file-all_synced : (d : Directory) (names : List Name) (q : Name) → file_at (all_synced d names) q ≡ cond (is_among names q) (option_map synced (file_at d q)) (file_at d q)
file-all_synced d [] q = refl
file-all_synced d (first ∷ names) q = file-all_synced (made (SyncFile first) d) names q ∙ elim (same_name q first) [
  | inl same ↦ ap (λ o. cond (is_among names q) (option_map synced o) o) (ap (file_at (changed d first synced)) same.0 ∙ changed_same d first synced ∙ ap (λ n. option_map synced (file_at d n)) (sym same.0))
      ∙ both (is_among names q) ∙ ap (λ b. cond (b || is_among names q) (option_map synced (file_at d q)) (file_at d q)) (sym same.1)
  | inr other ↦ ap (λ o. cond (is_among names q) (option_map synced o) o) (changed_other d first synced q other.0) ∙ ap (λ b. cond (b || is_among names q) (option_map synced (file_at d q)) (file_at d q)) (sym other.1)
]
  where
    both : (b : Bool) → cond b (option_map synced (option_map synced (file_at d q))) (option_map synced (file_at d q)) ≡ option_map synced (file_at d q)
    both true = synced_twice (file_at d q)
    both false = refl

synced_there : (o : Option File) (b : Bool) → is_some o ≡ b → cond b (option_map synced o) o ≡ option_map at_rest (option_map (λ f. f.bytes) o)
synced_there None true is = refl
synced_there None false is = refl
synced_there (Some f) true is = refl
synced_there (Some f) false is = absurd (cc)

-- a directory of which all files are synced is at rest
pub all_synced-keys : (d : Directory) → all_synced d (keys d) ≡ rested (contents d)
all_synced-keys d = maps_same (all_synced d (keys d)) (rested (contents d)) (λ q.
    file-all_synced d (keys d) q ∙ synced_there (file_at d q) (is_among (keys d) q) (contains_key-keys d q) ∙ ap (option_map at_rest) (sym (bytes-contents d q)) ∙ sym (file-rested (contents d) q))

-- syncs leave each file that is there
pub synced_stays : (d : Directory) (names : List Name) (q : Name) → IsSome (file_at d q) → IsSome (file_at (all_synced d names) q)
synced_stays d names q some = ap is_some (file-all_synced d names q) ∙ at (is_among names q) (file_at d q) some
  where
    at : (b : Bool) (o : Option File) → is_some o ≡ true → is_some (cond b (option_map synced o) o) ≡ true
    at true (Some f) some = refl
    at true None some = absurd (cc)
    at false o some = some

rest_bytes : (c : Contents) (q : Name) → bytes_at (contents (rested c)) q ≡ bytes_at c q
rest_bytes c q = bytes-contents (rested c) q ∙ ap (option_map (λ (f : File). f.bytes)) (file-rested c q) ∙ back (bytes_at c q)
  where
    back : (o : Option (List ℕ)) → option_map (λ (f : File). f.bytes) (option_map at_rest o) ≡ o
    back None = refl
    back (Some bytes) = refl

-- a directory at rest holds what it was made of
pub contents-rested : (c : Contents) → contents (rested c) ≡ c
contents-rested c = maps_same (contents (rested c)) c (rest_bytes c)
