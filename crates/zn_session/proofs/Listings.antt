-- The names in directories.
use Rattle.std.proofs.Common.{◌≡◌, ℕ, Bool, true, false, not, List, [], ◌∷◌, ◌++◌, length, Option, Some, None, Ok, refl, sym, ap, ◌∙◌, ⊎_elim, rules}
use Rattle.std.specs.Prelude.{codes, option_map, if◌then◌else◌, ◌==◌, nat_lt}
use Rattle.std.specs.Result.{result_ok}
use Rattle.std.specs.Str.{bytes_eq}
use Rattle.std.proofs.lemmas.Bool.{cases_Bool}
use Rattle.std.proofs.lemmas.Option.{same_Some}
use Rattle.zn_model.specs.declared.answers.Refusal.TheVariants.{PowerLost}
use Rattle.zn_model.specs.CallAnswers.{refused}
use Rattle.zn_model.specs.Looks.{entries_by, entries_call}
use Rattle.zn_lines.specs.Session.{names_in}
use Rattle.zn_model.specs.Volume.{Mounted}
use Rattle.zn_model.specs.ZoneFiles.{Layout, directories_of, names_to, some_names, listing_of}
use Rattle.zn_session.specs.Replies.{directory_names}
use Rattle.zn_session.proofs.ReplyLaws.{names_count}

-- a number of entries is that of the names that are listed
found_by : (b : Bool) (m : Mounted) (names : Option (List (List ℕ))) (n : ℕ) → (if b then entries_by names m else refused PowerLost m).reply ≡ Ok n → option_map length names ≡ Some n
found_by true m None n e = absurd (cc e)
found_by true m (Some names) n e = ap result_ok e
found_by false m names n e = absurd (cc e)

pub entries_found : (m : Mounted) (path : List ℕ) (n : ℕ) → (entries_call m path).reply ≡ Ok n → option_map length (listing_of m.volume.inodes.layout path) ≡ Some n
unfolding entries_call
entries_found m path n e = found_by m.world.powered m (listing_of m.volume.inodes.layout path) n e

-- ---- the root

directories_by : (a b : Bool) → (if a then [] else codes "cnv" ∷ []) ++ (if b then [] else codes "seq" ∷ []) ≡ directory_names (not a) (not b)
directories_by true true = refl
directories_by true false = refl
directories_by false true = refl
directories_by false false = refl

some_not_none : (n : ℕ) → nat_lt 0 n ≡ not (n == 0)
some_not_none n = search rules

pub some_is : (n k : ℕ) → n ≡ k → nat_lt 0 n ≡ not (k == 0)
some_is n k same = ap (nat_lt 0) same ∙ some_not_none k

pub root_names : (layout : Layout) (cnv seq : Bool) → cnv ≡ not (length layout.cnv == 0) → seq ≡ not (length layout.seq == 0) → directories_of layout ≡ directory_names cnv seq
root_names layout cnv seq is_cnv is_seq = directories_by (length layout.cnv == 0) (length layout.seq == 0) ∙ ap (λ a. directory_names a (not (length layout.seq == 0))) (sym is_cnv) ∙ ap (directory_names cnv) (sym is_seq)

pub root_listed : (layout : Layout) (path : List ℕ) → bytes_eq path (codes "/") ≡ true → listing_of layout path ≡ Some (directories_of layout)
unfolding listing_of
root_listed layout path is = rw is refl

-- ---- the other directories

some_are : (n k : ℕ) → option_map length (some_names n) ≡ Some k → names_in (some_names n) ≡ names_to k
some_are n k e = ⊎_elim
    (λ (none : (n == 0) ≡ true). let is : option_map length (if true then None else Some (names_to n)) ≡ Some k = rw none at e in absurd (cc is))
    (λ (some : (n == 0) ≡ false). let is : Some (length (names_to n)) ≡ Some k = rw some at e in rw some (ap names_to (sym (names_count n) ∙ same_Some _ _ is)))
    (cases_Bool (n == 0))

none_are : (k : ℕ) (names : Option (List (List ℕ))) → names ≡ None → option_map length names ≡ Some k → names_in names ≡ names_to k
none_are k names none e = absurd (let is : option_map (length {A = List ℕ}) None ≡ Some k = ap (option_map (length {A = List ℕ})) (sym none) ∙ e in cc is)

pub files_listed : (layout : Layout) (path : List ℕ) (k : ℕ) → bytes_eq path (codes "/") ≡ false → option_map length (listing_of layout path) ≡ Some k → names_in (listing_of layout path) ≡ names_to k
unfolding listing_of
files_listed layout path k other e = ⊎_elim
    (λ (is : bytes_eq path (codes "cnv") ≡ true). rw (other, is) (some_are (length layout.cnv) k (rw (other, is) at e)))
    (λ (not_cnv : bytes_eq path (codes "cnv") ≡ false). ⊎_elim
    (λ (is : bytes_eq path (codes "seq") ≡ true). rw (other, not_cnv, is) (some_are (length layout.seq) k (rw (other, not_cnv, is) at e)))
    (λ (none : bytes_eq path (codes "seq") ≡ false). absurd (let is : option_map (length {A = List ℕ}) None ≡ Some k = rw (other, not_cnv, none) at e in cc is))
    (cases_Bool (bytes_eq path (codes "seq"))))
    (cases_Bool (bytes_eq path (codes "cnv")))
