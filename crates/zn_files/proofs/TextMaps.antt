-- Maps by name.
use Rattle.std.proofs.Common.{◌≡◌, inl, inr, Bool, false, cond, Option, Some, None, Global, String, refl, sym, ap, ◌∙◌}
use Rattle.std.specs.Prelude.{◌≢◌, is_some}
use Rattle.std.specs.BTreeMap.{BTreeMap, UpdatesBy, get_by_text}
use Rattle.std.specs.Ordering.{is_eq, nat_cmp}
use Rattle.std.specs.Cmp.Lexicographic.{slice_cmp}
use Rattle.std.specs.String.{string_bytes, string_cmp}
use Rattle.std.proofs.lemmas.Map.Text.{btree_map_updates_text, is_eq-slice_cmp}
use Rattle.std.proofs.lemmas.Cmp.{nat_list_cmp_total, tied_itself}
use Rattle.zn_stand.specs.Maps.{Name}
use Rattle.zn_stand.proofs.NameMaps.{same_name}

-- a map in which one name has a new value, or none, and each other what it had
abbrev pub Updated : {X : Type 0} → Name → BTreeMap (String Global) X → BTreeMap (String Global) X → Option X → Type 0
Updated name m n w = UpdatesBy string_cmp (λ k. slice_cmp nat_cmp name (string_bytes k)) m n w

module _ {X : Type 0} (name : Name) (m n : BTreeMap (String Global) X) (w : Option X) (updates : Updated name m n w) where
  pub text_here : get_by_text n name ≡ w
  text_here = btree_map_updates_text name m n w updates name ∙ ap (λ b. cond b w (get_by_text m name)) (sym (is_eq-slice_cmp name name) ∙ ap is_eq (tied_itself nat_list_cmp_total name))

  pub text_other : (q : Name) → q ≢ name → get_by_text n q ≡ get_by_text m q
  text_other q apart = btree_map_updates_text name m n w updates q ∙ elim (same_name name q) [
    | inl same ↦ absurd (apart (sym same.0))
    | inr other ↦ ap (λ b. cond b w (get_by_text m q)) (sym (is_eq-slice_cmp name q) ∙ other.1)
  ]

pub none_there : {X : Type 0} (o : Option X) (b : Bool) → b ≡ is_some o → b ≡ false → o ≡ None
none_there None b is not_b = refl
none_there (Some x) b is not_b = absurd (cc)
