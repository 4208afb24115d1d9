-- Laws of the numbers by which a script calls handles.
use Rattle.std.proofs.Common.{◌≡◌, ◌≤◌, ℕ, suc, List, [], ◌∷◌, length, replicate, Option, Some, None, refl, sym, ap, ◌∙◌, subst, ⊎_elim}
use Rattle.std.proofs.Math.ListN.{get_or-map}
use Rattle.std.proofs.lemmas.List.{get_or-replicate, length-replicate, get_or_past}
use Rattle.std.proofs.lemmas.Bool.{cases_lt}
use Rattle.std.specs.Prelude.{option_map, IsSome, codes}
use Rattle.zn_lines.specs.declared.limits.TheConstants.{MAX_NUMBERS}
use Rattle.zn_model.specs.declared.handles.Handle.{Handle}
use Rattle.zn_model.specs.Volume.{Handles, Mounted, live_at}
use Rattle.zn_model.specs.Keys.{unkeyed, unkeyed_handle, IsUsedOnce}
use Rattle.zn_lines.specs.Table.{no_numbers}
use Rattle.zn_lines.specs.Session.{Stepped, handle_then, on_handle, says_error}
use Rattle.zn_model.proofs.KeysKept.{Keeps, once_kept}
use Rattle.zn_session.specs.SessionState.{unkeyed_numbers, table_of, number_at, IsNumbered}

pub number_unkeyed : (numbers : List (Option Handle)) (n : ℕ) → number_at (unkeyed_numbers numbers) n ≡ option_map unkeyed_handle (number_at numbers n)
number_unkeyed numbers n = get_or-map (option_map unkeyed_handle) numbers n None

-- a line on a number that has a handle
pub on_number : (m : Mounted) (numbers : List (Option Handle)) (n : ℕ) (h : Handle) (step : Mounted → Handle → Stepped) → number_at numbers n ≡ Some h → handle_then (table_of m numbers) n step ≡ step (unkeyed m) (unkeyed_handle h)
on_number m numbers n h step e = ap (λ found. on_handle found (table_of m numbers) (step (unkeyed m))) (number_unkeyed numbers n ∙ ap (option_map unkeyed_handle) e)

-- a line on a number that has none
pub on_free : (m : Mounted) (numbers : List (Option Handle)) (n : ℕ) (step : Mounted → Handle → Stepped) → number_at numbers n ≡ None → handle_then (table_of m numbers) n step ≡ says_error (codes "bad-handle") (table_of m numbers)
on_free m numbers n step e = ap (λ found. on_handle found (table_of m numbers) (step (unkeyed m))) (number_unkeyed numbers n ∙ ap (option_map unkeyed_handle) e)

-- where the handles stay, so do the numbers
pub kept_numbered : (m after : Mounted) (numbers : List (Option Handle)) → Keeps m after → IsNumbered m numbers → IsNumbered after numbers
kept_numbered m after numbers keeps is = record {
  count = is.count;
  once = once_kept m after keeps is.once;
  live = λ n h e. subst (λ (handles : Handles). IsSome (live_at handles h)) (sym keeps.handles) (is.live n h e);
  apart = is.apart;
}

-- ---- no handles

none_at : (k n : ℕ) → number_at (replicate k None) n ≡ None
none_at k n = ⊎_elim (λ below. get_or-replicate k n None None below) (λ past. get_or_past (replicate k None) n None (subst (λ (len : ℕ). len ≤ n) (sym (length-replicate k None)) past)) (cases_lt n k)

-- no number is that of a handle
none_has : (numbers : List (Option Handle)) (n : ℕ) (h : Handle) → numbers ≡ no_numbers → number_at numbers n ≡ Some h → ⊥
none_has numbers n h none has = let is : None ≡ Some h = sym (none_at MAX_NUMBERS n) ∙ ap (λ all. number_at all n) (sym none) ∙ has in cc is

no_count : length no_numbers ≡ MAX_NUMBERS
no_count = let none : Option Handle = None in length-replicate MAX_NUMBERS none

pub fresh_numbered : (m : Mounted) (numbers : List (Option Handle)) → numbers ≡ no_numbers → IsUsedOnce m.volume → IsNumbered m numbers
fresh_numbered m numbers none once = record {
  count = ap length none ∙ no_count;
  once = once;
  live = λ n h has. absurd (none_has numbers n h none has);
  apart = λ a b h has has'. absurd (none_has numbers a h none has);
}

all_none : (numbers : List (Option Handle)) → ((n : ℕ) → number_at numbers n ≡ None) → unkeyed_numbers numbers ≡ numbers
all_none [] none = refl
all_none (found ∷ numbers) none = ap (λ all. option_map unkeyed_handle found ∷ all) (all_none numbers (λ n. none (suc n))) ∙ ap (λ one. one ∷ numbers) (ap (option_map unkeyed_handle) (none 0) ∙ sym (none 0))

pub none_unkeyed : (numbers : List (Option Handle)) → numbers ≡ no_numbers → unkeyed_numbers numbers ≡ no_numbers
none_unkeyed numbers none = ap unkeyed_numbers none ∙ all_none no_numbers (none_at MAX_NUMBERS)
