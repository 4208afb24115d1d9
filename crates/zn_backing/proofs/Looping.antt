-- The steps of the loops over listed names.
use Rattle.std.proofs.Common.{◌≡◌, ◌⊎◌, ◌≢◌, inl, inr, ℕ, suc, ◌+◌, ◌-◌, ◌/◌, ◌<◌, ◌≤◌, Bool, true, false, cond, ltb, List, [], ◌∷◌, ◌++◌, length, take, get_or, Option, Some, None, Result, Ok, Err, refl, sym, ap, ◌∙◌, subst, arith}
use Rattle.std.specs.Prelude.{IsSome, is_some, slice_get}
use Rattle.std.specs.Option.{option_map}
use Rattle.std.specs.Ordering.{is_lt}
use Rattle.std.specs.FinMap.{keys}
use Rattle.std.specs.Str.{bytes_eq}
use Rattle.std.proofs.lemmas.Bool.{cases_order, le-ltb, cases_Bool}
use Rattle.std.proofs.lemmas.List.{take_more}
use Rattle.std.proofs.lemmas.Option.{same_Some, slice_get-get_or}
use Rattle.std.proofs.lemmas.Slice.Eq.{bytes_eq-Decides}
use Rattle.zn_base.specs.Causes.{Rose}
use Rattle.std.specs.declared.cmp.Ordering.TheVariants.{Less}
use Rattle.zn_stand.specs.Maps.{Name, name_cmp}
use Rattle.zn_stand.specs.Directory.{Directory, file_at}
use Rattle.zn_stand.specs.Calls.{SyncFile, made}
use Rattle.zn_files.specs.Names.{IsInOrder}
use Rattle.zn_files.specs.States.{FilesState, directory, is_told}
use Rattle.zn_backing.specs.declared.error.OpenError.{OpenError}
use Rattle.zn_backing.specs.Listing.{is_among}
use Rattle.zn_backing.specs.Steps.{Syncs, all_synced}
use Rattle.zn_backing.specs.Loops.{IsBetween, AreSynced}
use Rattle.zn_backing.proofs.Listings.{found_among, none_among, all_below, none_below, listed_there, all_synced-more, synced_stays}

pub name_at : (names : List Name) (i : ℕ) (name : Name) → i < length names → slice_get names i ≡ Some name → get_or names i [] ≡ name
name_at names i name within is = same_Some (get_or names i []) name (sym (slice_get-get_or names i [] within) ∙ is)

pub more_below : (names : List Name) (name at : Name) (low high middle : ℕ) → IsBetween names name low high → low ≤ middle → middle < high → slice_get names middle ≡ Some at → is_lt (name_cmp at name) ≡ true → IsBetween names name (middle + 1) high
more_below names name at low high middle between from to is lt =
    let most : high ≤ length names = between.most in
    let within : middle < length names = omega arith in
    record {
      sorted = between.sorted;
      order = omega arith;
      most = most;
      below = all_below names name middle within between.sorted (subst (λ n. is_lt (name_cmp n name) ≡ true) (sym (name_at names middle at within is)) lt);
      above = between.above;
    }

pub less_above : (names : List Name) (name at : Name) (low high middle : ℕ) → IsBetween names name low high → low ≤ middle → middle < high → slice_get names middle ≡ Some at → is_lt (name_cmp at name) ≡ false → IsBetween names name low middle
less_above names name at low high middle between from to is not_lt =
    let most : high ≤ length names = between.most in
    let within : middle < length names = omega arith in
    record {
      sorted = between.sorted;
      order = from;
      most = omega arith;
      below = between.below;
      above = none_below names name middle between.sorted (subst (λ n. is_lt (name_cmp n name) ≡ false) (sym (name_at names middle at within is)) not_lt);
    }

-- the place of a name tells whether it is there
pub told_there : (names : List Name) (name there : Name) (at : ℕ) → at < length names → IsInOrder names → ((k : ℕ) → k < at → name_cmp (get_or names k []) name ≡ Less) → ((k : ℕ) → at ≤ k → k < length names → name_cmp (get_or names k []) name ≢ Less)
    → slice_get names at ≡ Some there → bytes_eq there name ≡ is_among names name
told_there names name there at within order below above is = by_case (bytes_eq there name) refl
  where
    by_case : (b : Bool) → bytes_eq there name ≡ b → b ≡ is_among names name
    by_case true same = found_among names name at within (name_at names at there within is ∙ (bytes_eq-Decides there name).0 same)
    by_case false other = none_among names name at below above order (λ inside equal. absurd (cc ((bytes_eq-Decides there name).1 (sym (name_at names at there within is) ∙ equal), other)))

pub told_absent : (names : List Name) (name : Name) (at : ℕ) → length names ≤ at → IsInOrder names → ((k : ℕ) → k < at → name_cmp (get_or names k []) name ≡ Less) → ltb at (length names) ≡ is_among names name
told_absent names name at beyond order below = le-ltb at (length names) beyond ∙ none_among names name at below (λ k from within. absurd (omega arith)) order (λ inside. absurd (omega arith))

-- ---- syncs

first_of : (change : Directory → Directory) (o : Option Directory) (d : Directory) → option_map change o ≡ Some d → (old : Directory) × (o ≡ Some old) × (change old ≡ d)
first_of change None d is = absurd (cc)
first_of change (Some old) d is = (old, refl, same_Some (change old) d is)

pub sync_there : (names : List Name) (name : Name) (i : ℕ) (old new : FilesState) → AreSynced names i old new → i < length names → slice_get names i ≡ Some name → ((d : Directory) → directory old ≡ Some d → names ≡ keys d)
    → (d : Directory) → directory new ≡ Some d → IsSome (file_at d name)
sync_there names name i old new synced within is listed d told =
    let first = first_of (λ d. all_synced d (take i names)) (directory old) d (sym synced.syncs.done ∙ told) in
    let among : is_among (keys first.0) name ≡ true = ap (λ ns. is_among ns name) (sym (listed first.0 first.1)) ∙ sym (found_among names name i within (name_at names i name within is)) in
    subst (λ d. IsSome (file_at d name)) first.2 (synced_stays first.0 (take i names) name (listed_there first.0 name among))

both_maps : (f g h : Directory → Directory) (o : Option Directory) → ((d : Directory) → g (f d) ≡ h d) → option_map g (option_map f o) ≡ option_map h o
both_maps f g h None is = refl
both_maps f g h (Some d) is = ap Some (is d)

pub synced_more : (names : List Name) (name : Name) (i : ℕ) (old middle new : FilesState) → AreSynced names i old middle → i < length names → slice_get names i ≡ Some name → Syncs {T = Unit {0}} (Ok tt) (λ d. made (SyncFile name) d) middle new → AreSynced names (i + 1) old new
synced_more names name i old middle new before within is sync =
    let more : take (i + 1) names ≡ take i names ++ name ∷ [] = take_more names i [] within ∙ ap (λ n. take i names ++ n ∷ []) (name_at names i name within is) in
    record {
      syncs = record {
        later = omega (arith, before.syncs.later, sync.later);
        fault = λ is. absurd (cc);
        kept = sync.kept ∙ before.syncs.kept;
        told = sync.told ∙ before.syncs.told;
        done = sync.done ∙ ap (option_map (λ d. made (SyncFile name) d)) before.syncs.done
            ∙ both_maps (λ d. all_synced d (take i names)) (λ d. made (SyncFile name) d) (λ d. all_synced d (take (i + 1) names)) (directory old) (λ d. sym (ap (all_synced d) more ∙ all_synced-more d (take i names) name));
      };
    }
