-- Files of a directory in memory.
use Rattle.std.proofs.Common.{◌≡◌, List, ℕ, Result, Ok, Err, cond, Some, inl, inr, sym, ap, ◌∙◌}
use Rattle.std.specs.Prelude.{is_ok, OnOk, OnErr}
use Rattle.std.specs.BTreeMap.{get_by_text}
use Rattle.std.specs.Global.{Vec}
use Rattle.std.specs.Option.{option_map}
use Rattle.zn_stand.specs.Maps.{Name}
use Rattle.zn_stand.proofs.NameMaps.{same_name}
use Rattle.zn_files.specs.Stores.{Store, bytes_in, ChangesStored, AddsStored, SameStored}
use Rattle.zn_files.proofs.TextMaps.{Updated, text_here, text_other}

module _ (old new : Store) (name : Name) (v : Vec ℕ) (there : get_by_text old name ≡ Some v) where
  pub changed_in : (w : Vec ℕ) (change : List ℕ → List ℕ) → Updated name old new (Some w) → w.items ≡ change v.items → ChangesStored old new name change
  changed_in w change updates is = record {
    here = ap (option_map (λ x. x.items)) (text_here name old new (Some w) updates) ∙ ap Some is ∙ sym (ap (λ o. option_map change (option_map (λ x. x.items) o)) there);
    others = λ q apart. ap (option_map (λ x. x.items)) (text_other name old new (Some w) updates q apart);
  }

  pub same_in : (w : Vec ℕ) → Updated name old new (Some w) → w.items ≡ v.items → SameStored old new
  same_in w updates is q = elim (same_name q name) [
    | inl same ↦
        ap (bytes_in new) same.0 ∙ ap (option_map (λ x. x.items)) (text_here name old new (Some w) updates) ∙ ap Some is ∙ sym (ap (option_map (λ x. x.items)) there) ∙ ap (bytes_in old) (sym same.0)
    | inr other ↦ ap (option_map (λ x. x.items)) (text_other name old new (Some w) updates q other.0)
  ]

pub added_in : (old new : Store) (name : Name) (w : Vec ℕ) → Updated name old new (Some w) → AddsStored old new name w.items
added_in old new name w updates = record {
  here = ap (option_map (λ x. x.items)) (text_here name old new (Some w) updates);
  others = λ q apart. ap (option_map (λ x. x.items)) (text_other name old new (Some w) updates q apart);
}

pub if_ok : {T E A : Type 0} (r : Result T E) (x a b : A) → x ≡ cond (is_ok r) a b → OnOk r (x ≡ a)
if_ok (Ok value) x a b is = is
if_ok (Err e) x a b is = tt

pub if_err : {T E A : Type 0} (r : Result T E) (x a b : A) → x ≡ cond (is_ok r) a b → OnErr r (x ≡ b)
if_err (Ok value) x a b is = tt
if_err (Err e) x a b is = is
