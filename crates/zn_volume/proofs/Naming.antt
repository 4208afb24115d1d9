-- The file that a path names, by its directory and number.
use Rattle.std.proofs.Common.{◌≡◌, ◌≢◌, ℕ, ◌+◌, ◌-◌, ◌^◌, ◌<◌, Bool, true, false, ltb, List, [], ◌++◌, length, map, take, drop, get_or, Option, Some, None, refl, sym, ap, ◌∙◌, subst, arith, inl, inr, position, bytes_eq, codes, decimal, length-append, option_map}
use Rattle.std.proofs.lemmas.List.{length-map}
use Rattle.std.specs.Prelude.{◌==◌}
use Rattle.std.specs.List.{range_with_len, position_or_len}
use Rattle.std.proofs.lemmas.Bool.{cond-true, cond-false, cases_lt, lt-ltb, le-ltb, ltb-true, ne_eqb, false_from_ne_true}
use Rattle.std.proofs.lemmas.List.{take_at, drop_at, take-append-drop, get_or_append_left, get_or-append-add}
use Rattle.std.proofs.lemmas.List.FromFn.{length-range_with_len, get_or-map-range_with_len}
use Rattle.std.proofs.lemmas.List.Sums.{position_or_len_is}
use Rattle.std.proofs.lemmas.Option.{same_Some, none-some}
use Rattle.std.proofs.lemmas.Slice.Eq.{bytes_eq-Decides}
use Rattle.zn_base.specs.Decimals.{number_in}
use Rattle.zn_model.specs.ZoneFiles.{Layout, cnv_path, seq_path, paths_of, file_named, names_to, some_names}
use Rattle.zn_base.proofs.DecimalLaws.{number_in-decimal, decimal-number_in, cond_taken}
use Rattle.zn_volume.specs.Paths.{number_behind, below, numbered}

-- ---- the first that passes

position_at : {X : Type 0} (p : X → Bool) (xs : List X) (i : ℕ) (d : X) → i < length xs → ((k : ℕ) → k < i → p (get_or xs k d) ≡ false) → p (get_or xs i d) ≡ true → position p xs ≡ Some i
position_at p xs i d inside before passes =
    let is : position_or_len p xs ≡ i = position_or_len_is p xs i d (omega arith) before (λ _. passes) in
    cond-true (ltb (position_or_len p xs) (length xs)) (Some (position_or_len p xs)) None (lt-ltb _ _ (omega arith)) ∙ ap (λ (k : ℕ). Some k) is

position_none : {X : Type 0} (p : X → Bool) (xs : List X) (d : X) → ((k : ℕ) → k < length xs → p (get_or xs k d) ≡ false) → position p xs ≡ None
position_none p xs d fails =
    let is : position_or_len p xs ≡ length xs = position_or_len_is p xs (length xs) d (omega arith) fails (λ h. absurd (omega arith)) in
    cond-false (ltb (position_or_len p xs) (length xs)) (Some (position_or_len p xs)) None (le-ltb _ _ (omega arith))

-- ---- numbers behind directories

-- the number of a path of a directory
told : (directory : List ℕ) (i : ℕ) → length directory ≡ 4 → i < 2 ^ 32 → number_behind directory (directory ++ decimal i) ≡ Some i
told directory i four small =
    let front : take 4 (directory ++ decimal i) ≡ directory = take_at directory (decimal i) 4 four in
    let rest : drop 4 (directory ++ decimal i) ≡ decimal i = drop_at directory (decimal i) 4 four in
    cond-true (bytes_eq (take 4 (directory ++ decimal i)) directory) (number_in 4294967295 (drop 4 (directory ++ decimal i))) None ((bytes_eq-Decides _ directory).1 front)
    ∙ ap (number_in 4294967295) rest ∙ number_in-decimal 4294967295 i (omega arith) (omega arith)

-- a path with a number is the one of that number
behind : (directory path : List ℕ) (i : ℕ) → number_behind directory path ≡ Some i → directory ++ decimal i ≡ path
behind directory path i is =
    let taken = cond_taken (bytes_eq (take 4 path) directory) (number_in 4294967295 (drop 4 path)) i is in
    let front : take 4 path ≡ directory = (bytes_eq-Decides (take 4 path) directory).0 taken.0 in
    let rest : drop 4 path ≡ decimal i = (decimal-number_in 4294967295 i (drop 4 path) (omega arith) taken.1).0 in
    ap (λ (l : List ℕ). l ++ decimal i) (sym front) ∙ ap (λ (l : List ℕ). take 4 path ++ l) (sym rest) ∙ take-append-drop 4 path

-- a path that is one of the directory's has its number
from_path : (directory path : List ℕ) (i : ℕ) → length directory ≡ 4 → i < 2 ^ 32 → directory ++ decimal i ≡ path → number_behind directory path ≡ Some i
from_path directory path i four small is = subst (λ (l : List ℕ). number_behind directory l ≡ Some i) is (told directory i four small)

below_some : (count i : ℕ) (o : Option ℕ) → o ≡ Some i → i < count → below count o ≡ Some i
below_some count i o is h = ap (below count) is ∙ cond-true (ltb i count) (Some i) None (lt-ltb i count h)

from_below : (count i : ℕ) (o : Option ℕ) → below count o ≡ Some i → (o ≡ Some i) × (i < count)
from_below count i None is = absurd (none-some i is)
from_below count i (Some n) is =
    let taken = cond_taken (ltb n count) (Some n) i is in
    (taken.1, omega (arith, ltb-true n count taken.0, same_Some n i taken.1))

none_and_some : {A : Type 0} (o : Option ℕ) (i : ℕ) → o ≡ None → o ≡ Some i → A
none_and_some o i none some = absurd (none-some i (sym none ∙ some))

-- ---- the paths of all files

path_cnv : (layout : Layout) (k : ℕ) → k < length layout.cnv → get_or (paths_of layout) k [] ≡ cnv_path k
path_cnv layout k inside =
    get_or_append_left (map cnv_path (range_with_len 0 (length layout.cnv))) (map seq_path (range_with_len 0 (length layout.seq))) [] k (omega (arith, length-map (range_with_len 0 (length layout.cnv)) cnv_path, length-range_with_len 0 (length layout.cnv)))
    ∙ get_or-map-range_with_len cnv_path 0 (length layout.cnv) k k [] inside (omega arith)

path_seq : (layout : Layout) (k : ℕ) → k < length layout.seq → get_or (paths_of layout) (length layout.cnv + k) [] ≡ seq_path k
path_seq layout k inside =
    let front : length (map cnv_path (range_with_len 0 (length layout.cnv))) ≡ length layout.cnv = length-map (range_with_len 0 (length layout.cnv)) cnv_path ∙ length-range_with_len 0 (length layout.cnv) in
    ap (λ (n : ℕ). get_or (paths_of layout) (n + k) []) (sym front)
    ∙ get_or-append-add (map cnv_path (range_with_len 0 (length layout.cnv))) (map seq_path (range_with_len 0 (length layout.seq))) k []
    ∙ get_or-map-range_with_len seq_path 0 (length layout.seq) k k [] inside (omega arith)

paths-length : (layout : Layout) → length (paths_of layout) ≡ length layout.cnv + length layout.seq
paths-length layout =
    let a = length-map (range_with_len 0 (length layout.cnv)) cnv_path ∙ length-range_with_len 0 (length layout.cnv) in
    let b = length-map (range_with_len 0 (length layout.seq)) seq_path ∙ length-range_with_len 0 (length layout.seq) in
    omega (arith, length-append (map cnv_path (range_with_len 0 (length layout.cnv))) (map seq_path (range_with_len 0 (length layout.seq))), a, b)

-- no path of `cnv` before a number, or at all
cnv_differs : (layout : Layout) (path : List ℕ) (k : ℕ) → length layout.cnv < 2 ^ 32 → k < length layout.cnv
    → (below (length layout.cnv) (number_behind (codes "cnv/") path) ≡ Some k → ⊥) → bytes_eq (get_or (paths_of layout) k []) path ≡ false
cnv_differs layout path k small inside other =
    false_from_ne_true _ (λ same. other (below_some (length layout.cnv) k _ (from_path (codes "cnv/") path k refl (omega arith) (sym (path_cnv layout k inside) ∙ (bytes_eq-Decides _ path).0 same)) inside))

seq_differs : (layout : Layout) (path : List ℕ) (k : ℕ) → length layout.seq < 2 ^ 32 → k < length layout.seq
    → (below (length layout.seq) (number_behind (codes "seq/") path) ≡ Some k → ⊥) → bytes_eq (get_or (paths_of layout) (length layout.cnv + k) []) path ≡ false
seq_differs layout path k small inside other =
    false_from_ne_true _ (λ same. other (below_some (length layout.seq) k _ (from_path (codes "seq/") path k refl (omega arith) (sym (path_seq layout k inside) ∙ (bytes_eq-Decides _ path).0 same)) inside))

-- a place among all paths is one of `cnv` or of `seq`
each_path : (layout : Layout) (path : List ℕ) (k : ℕ) → length layout.cnv + length layout.seq < 2 ^ 32 → k < length layout.cnv + length layout.seq
    → ((i : ℕ) → i ≡ k → below (length layout.cnv) (number_behind (codes "cnv/") path) ≡ Some i → ⊥)
    → ((i : ℕ) → length layout.cnv + i ≡ k → below (length layout.seq) (number_behind (codes "seq/") path) ≡ Some i → ⊥)
    → bytes_eq (get_or (paths_of layout) k []) path ≡ false
each_path layout path k small inside no_cnv no_seq = elim (cases_lt k (length layout.cnv)) [
  | inl first ↦ cnv_differs layout path k (omega arith) first (no_cnv k refl)
  | inr second ↦
      let at : length layout.cnv + (k - length layout.cnv) ≡ k = omega arith in
      subst (λ (n : ℕ). bytes_eq (get_or (paths_of layout) n []) path ≡ false) at
      (seq_differs layout path (k - length layout.cnv) (omega arith) (omega arith) (no_seq (k - length layout.cnv) at))
]

named_by : (layout : Layout) (path : List ℕ) (a b : Option ℕ) → length layout.cnv + length layout.seq < 2 ^ 32
    → below (length layout.cnv) (number_behind (codes "cnv/") path) ≡ a → below (length layout.seq) (number_behind (codes "seq/") path) ≡ b
    → position (λ p. bytes_eq p path) (paths_of layout) ≡ numbered (length layout.cnv) a b
named_by layout path (Some i) b small first second =
    let from = from_below (length layout.cnv) i (number_behind (codes "cnv/") path) first in
    let inside : i < length layout.cnv = from.1 in
    position_at (λ p. bytes_eq p path) (paths_of layout) i [] (omega (arith, paths-length layout))
    (λ k before. cnv_differs layout path k (omega arith) (omega arith) (λ is. absurd (omega (arith, same_Some k i (sym is ∙ first)))))
    ((bytes_eq-Decides _ path).1 (path_cnv layout i inside ∙ behind (codes "cnv/") path i from.0))
named_by layout path None (Some i) small first second =
    let from = from_below (length layout.seq) i (number_behind (codes "seq/") path) second in
    let inside : i < length layout.seq = from.1 in
    position_at (λ p. bytes_eq p path) (paths_of layout) (length layout.cnv + i) [] (omega (arith, paths-length layout))
    (λ k before. each_path layout path k small (omega arith) (λ j _ is. none_and_some _ j first is) (λ j at is. absurd (omega (arith, same_Some j i (sym is ∙ second)))))
    ((bytes_eq-Decides _ path).1 (path_seq layout i inside ∙ behind (codes "seq/") path i from.0))
named_by layout path None None small first second =
    position_none (λ p. bytes_eq p path) (paths_of layout) [] (λ k inside. each_path layout path k small (omega (arith, paths-length layout)) (λ j _ is. none_and_some _ j first is) (λ j _ is. none_and_some _ j second is))

-- the file of a path
pub file_named_is : (layout : Layout) (path : List ℕ) (cnv seq : ℕ) → length layout.cnv ≡ cnv → length layout.seq ≡ seq → cnv + seq < 2 ^ 32
    → file_named layout path ≡ numbered cnv (below cnv (number_behind (codes "cnv/") path)) (below seq (number_behind (codes "seq/") path))
unfolding file_named
file_named_is layout path cnv seq first second small =
    named_by layout path _ _ (omega arith) refl refl
    ∙ ap (λ (n : ℕ). numbered n (below n (number_behind (codes "cnv/") path)) (below (length layout.seq) (number_behind (codes "seq/") path))) first
    ∙ ap (λ (n : ℕ). numbered cnv (below cnv (number_behind (codes "cnv/") path)) (below n (number_behind (codes "seq/") path))) second

-- ---- directories

-- so many names as there are files
pub some_names-length : (count : ℕ) → count ≢ 0 → option_map (length {A = List ℕ}) (some_names count) ≡ Some count
some_names-length count some =
    ap (λ (o : Option (List (List ℕ))). option_map (length {A = List ℕ}) o) (cond-false (count == 0) None (Some (names_to count)) (ne_eqb count 0 some))
    ∙ ap (λ (n : ℕ). Some n) (length-map (range_with_len 0 count) decimal ∙ length-range_with_len 0 count)

pub ruleset name_counts = (some_names-length)
