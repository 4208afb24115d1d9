-- A look as a whole.
use Rattle.std.proofs.Common.{◌≡◌, ◌⊎◌, ◌≢◌, inl, inr, ℕ, ◌+◌, ◌-◌, ◌/◌, ◌<◌, ◌≤◌, Bool, true, false, cond, ltb, ◌&&◌, List, [], ◌∷◌, length, map, get_or, Option, Some, None, Result, Ok, Err, refl, sym, ap, ◌∙◌, subst, arith}
use Rattle.std.specs.Prelude.{IsTrue, OnOk, IfSome, IfErr, IsSome, is_some}
use Rattle.std.specs.Option.{option_map}
use Rattle.std.specs.FinMap.{keys}
use Rattle.std.specs.List.{range_with_len}
use Rattle.std.proofs.lemmas.Bool.{and_cases, lt-ltb, ltb-false, both_ways}
use Rattle.std.proofs.lemmas.List.FromFn.{get_or-map-range_with_len}
use Rattle.zn_base.specs.Causes.{Rose}
use Rattle.zn_truth.specs.declared.limits.TheConstants.{BLOCK_SIZE}
use Rattle.zn_truth.specs.declared.Cond.{Cond}
use Rattle.zn_truth.specs.declared.Cond.TheVariants.{Good, ReadOnly, Offline}
use Rattle.zn_truth.specs.declared.ZoneInfo.{ZoneInfo}
use Rattle.zn_truth.specs.Truth.{Truth, Zone, active, zone_at, info_at}
use Rattle.zn_stand.specs.declared.numbers.Geometry.{Geometry}
use Rattle.zn_stand.specs.Maps.{Name}
use Rattle.zn_stand.specs.Directory.{Directory, Contents, bytes_at, contents, rested}
use Rattle.zn_stand.specs.ZoneNames.{zone_numbers, kinds_of}
use Rattle.zn_stand.specs.DeviceText.{is_within}
use Rattle.zn_stand.specs.AtRest.{Cause, TooManyActive as ManyActive, bytes_left, cond_in, zone_bytes, truth_in, first_fault, first_extra, is_over, at_rest, device_at_rest, unless_fault, unless_extra}
use Rattle.zn_stand.proofs.DeviceNames.{within_limits, count_kinds}
use Rattle.zn_stand.proofs.DeviceRest.{IsFound, found_is, zone_at-truth_in, geometry-truth_in}
use Rattle.zn_files.specs.States.{FilesState, directory, is_told}
use Rattle.zn_backing.specs.declared.error.OpenError.{OpenError}
use Rattle.zn_backing.specs.declared.error.OpenError.TheVariants.{TooManyActive, Fault}
use Rattle.zn_backing.specs.Failures.{cause_of}
use Rattle.zn_backing.specs.Steps.{Steps, Sought, Syncs, IsCauseIn, all_synced}
use Rattle.zn_backing.specs.Looks.{info_with, info_in, no_info, Lists, HasGeometry, HasZones, HasFiles, HasNames, AreStarted}
use Rattle.zn_backing.specs.Actives.{active_from, IsStartOf, Finds, IsCause, Looks}
use Rattle.zn_backing.proofs.Stepping.{steps_then, sought_handed, sought_after}
use Rattle.zn_backing.proofs.Listings.{all_synced-keys, contents-rested, keys-contents}
use Rattle.zn_backing.proofs.Looking.{rest_by}
use Rattle.zn_backing.proofs.Counting.{active-truth_in, starts}

pub lists_after : {T : Type 0} (names : List Name) (x : T) (old new : FilesState) → Lists names old → Steps {T = T} (Ok x) old new → Lists names new
lists_after names x old new lists steps d told = lists d (sym (steps.same (λ is. absurd (cc))) ∙ told)

pub found_after : {T U : Type 0} (P : Directory → U → Type 0) (x : T) (y : U) (old middle new : FilesState) → Steps {T = T} (Ok x) old middle → Sought {T = U} (Ok y) middle new P → (d : Directory) → directory old ≡ Some d → P d y
found_after P x y old middle new first sought d told = sought.found d (first.same (λ is. absurd (cc)) ∙ told)

pub few_zones : (geo : Geometry) (infos : List ZoneInfo) → IsTrue (is_within geo) → AreStarted geo geo.zones infos → length infos ≤ 4096
few_zones geo infos within are = omega (arith, are.count, (within_limits geo within).1.most, count_kinds geo)

info_zone : (c : Cond) (bytes : List ℕ) → info_with c (length bytes) ≡ record { cond = c; held = length (bytes_left c bytes) / BLOCK_SIZE; explicit = false }
info_zone Good bytes = refl
info_zone ReadOnly bytes = refl
info_zone Offline bytes = refl

-- the count that was made is the device's
active_is : (c : Contents) (geo : Geometry) (infos : List ZoneInfo) → HasZones c geo geo.zones infos → active_from geo 0 infos ≡ active (truth_in (bytes_at c) geo)
active_is c geo infos has = ap (active_from geo 0) has.told ∙ sym (active-truth_in (bytes_at c) geo)

finds : (c : Contents) (geo : Geometry) (infos : List ZoneInfo) (count : ℕ) → HasGeometry c geo → HasZones c geo geo.zones infos → HasNames c geo → count ≡ active_from geo 0 infos → (ltb 0 geo.shape.max_active && ltb geo.shape.max_active count) ≡ false → Finds c geo infos
finds c geo infos count has zones names is over = record {
  t = truth_in (bytes_at c) geo;
  rest = rest_by c geo has ∙ found_is (bytes_at c) (keys c) geo (truth_in (bytes_at c) geo) (record {
    faults = zones.faults;
    extra = names.extra;
    over = ap (λ n. ltb 0 geo.shape.max_active && ltb geo.shape.max_active n) (sym (is ∙ active_is c geo infos zones)) ∙ over;
    is = refl;
  });
  geometry = geometry-truth_in (bytes_at c) geo;
  told = λ z there. ap (λ l. get_or l z no_info) zones.told ∙ get_or-map-range_with_len (info_in (bytes_at c) geo) 0 geo.zones z z no_info there (omega arith)
      ∙ info_zone (cond_in (bytes_at c) geo z) (zone_bytes (bytes_at c) geo z)
      ∙ ap (λ (zone : Zone). record { cond = zone.cond; held = zone.held; explicit = zone.explicit }) (sym (zone_at-truth_in (bytes_at c) geo z there));
}

too_many : (c : Contents) (geo : Geometry) (infos : List ZoneInfo) (count : ℕ) → HasGeometry c geo → HasZones c geo geo.zones infos → HasNames c geo → count ≡ active_from geo 0 infos → (ltb 0 geo.shape.max_active && ltb geo.shape.max_active count) ≡ true → at_rest c ≡ Err (ManyActive count)
unfolding device_at_rest
too_many c geo infos count has zones names is over =
    let same : count ≡ active (truth_in (bytes_at c) geo) = is ∙ active_is c geo infos zones in
    rest_by c geo has ∙ ap (λ o. unless_fault o (first_extra (bytes_at c) geo (keys c)) (truth_in (bytes_at c) geo)) zones.faults ∙ ap (λ o. unless_extra o (truth_in (bytes_at c) geo)) names.extra
    ∙ ap (λ b. cond b (Err (ManyActive (active (truth_in (bytes_at c) geo)))) (Ok (truth_in (bytes_at c) geo))) (ap (λ n. ltb 0 geo.shape.max_active && ltb geo.shape.max_active n) (sym same) ∙ over)
    ∙ ap (λ n. Err (ManyActive n)) (sym same)

-- what the three parts found, one after another
pub record AreFound (geo : Geometry) (infos : List ZoneInfo) (old new : FilesState) : Type 0 where
  pub steps : Steps {T = Unit {0}} (Ok tt) old new
  pub geometry : (d : Directory) → directory old ≡ Some d → HasGeometry (contents d) geo
  pub zones : (d : Directory) → directory old ≡ Some d → HasZones (contents d) geo geo.zones infos
  pub names : (d : Directory) → directory old ≡ Some d → HasNames (contents d) geo

steps_as : {T U : Type 0} (x : T) (y : U) (old new : FilesState) → Steps {T = T} (Ok x) old new → Steps {T = U} (Ok y) old new
steps_as x y old new steps = record { later = steps.later; fault = λ is. absurd (cc); kept = λ _. steps.kept (λ is. absurd (cc)); told = steps.told; same = λ _. steps.same (λ is. absurd (cc)) }

pub all_found : {V : Type 0} (geo : Geometry) (v : V) (infos : List ZoneInfo) (view : V → List ZoneInfo) (s0 s1 s2 s3 : FilesState) → view v ≡ infos → Sought {T = Geometry} (Ok geo) s0 s1 (λ d geo. HasGeometry (contents d) geo) → Sought {T = V} (Ok v) s1 s2 (λ d v. HasZones (contents d) geo geo.zones (view v)) → Sought {T = Unit {0}} (Ok tt) s2 s3 (λ d all. HasNames (contents d) geo) → AreFound geo infos s0 s3
all_found {V} geo v infos view s0 s1 s2 s3 same one two three =
    let both : Steps {T = V} (Ok v) s0 s2 = steps_then geo (Ok v) s0 s1 s2 one.steps two.steps in
    record {
      steps = steps_then v (Ok tt) s0 s2 s3 both three.steps;
      geometry = one.found;
      zones = λ d told. subst (HasZones (contents d) geo geo.zones) same (found_after (λ d v. HasZones (contents d) geo geo.zones (view v)) geo v s0 s1 s2 one.steps two d told);
      names = found_after (λ d all. HasNames (contents d) geo) v tt s0 s2 s3 both three;
    }

pub found_few : {U : Type 0} (geo : Geometry) (infos : List ZoneInfo) (count : ℕ) (u : U) (P : Directory → U → Type 0) (old new : FilesState) → AreFound geo infos old new → count ≡ active_from geo 0 infos → (ltb 0 geo.shape.max_active && ltb geo.shape.max_active count) ≡ false → ((d : Directory) → Finds (contents d) geo infos → P d u) → Sought {T = U} (Ok u) old new P
found_few {U} geo infos count u P old new all is over gives = record {
  steps = steps_as tt u old new all.steps;
  found = λ d told. gives d (finds (contents d) geo infos count (all.geometry d told) (all.zones d told) (all.names d told) is over);
  cause = λ d told. tt;
}

pub found_many : {U : Type 0} (geo : Geometry) (infos : List ZoneInfo) (count : ℕ) (P : Directory → U → Type 0) (old new : FilesState) → AreFound geo infos old new → count ≡ active_from geo 0 infos → (ltb 0 geo.shape.max_active && ltb geo.shape.max_active count) ≡ true → Sought {T = U} (Err (TooManyActive count)) old new P
found_many {U} geo infos count P old new all is over = record {
  steps = record { later = all.steps.later; fault = λ is. absurd (cc); kept = λ _. all.steps.kept (λ is. absurd (cc)); told = all.steps.told; same = λ _. all.steps.same (λ is. absurd (cc)) };
  found = λ d told. tt;
  cause = λ d told. too_many (contents d) geo infos count (all.geometry d told) (all.zones d told) (all.names d told) is over;
}

pub started : (geo : Geometry) (infos : List ZoneInfo) (count : ℕ) → IsTrue (is_within geo) → AreStarted geo geo.zones infos → count ≡ active_from geo 0 infos → (ltb 0 geo.shape.max_active && ltb geo.shape.max_active count) ≡ false → IsStartOf geo infos
started geo infos count within are is over = record {
  within = (within_limits geo within).1;
  count = are.count;
  start = starts geo infos are (λ some. few some (and_cases (ltb 0 geo.shape.max_active) (ltb geo.shape.max_active count) over));
}
  where
    few : 0 < geo.shape.max_active → (ltb 0 geo.shape.max_active ≡ false) ⊎ (ltb geo.shape.max_active count ≡ false) → active_from geo 0 infos ≤ geo.shape.max_active
    few some (inl none) = absurd (both_ways (ltb 0 geo.shape.max_active) none (lt-ltb 0 geo.shape.max_active some))
    few some (inr fits) = omega (arith, ltb-false geo.shape.max_active count fits, is)

-- ---- after the syncs

plain_none : (c : Contents) (o : Option Cause) → o ≡ None → IfSome o (λ cause. at_rest c ≡ Err cause)
plain_none c None is = tt
plain_none c (Some cause) is = absurd (cc)

pub looks_failed : {T U V : Type 0} (P : Contents → V → Type 0) (x : T) (e : OpenError) (names : List Name) (old middle new : FilesState) → Steps {T = T} (Ok x) old middle → Syncs {T = U} (Err e) (λ d. all_synced d names) middle new → cause_of e ≡ None → Looks {T = V} (Err e) old new P
looks_failed {T} {U} {V} P x e names old middle new first syncs plain =
    let kept : middle.faults ≡ old.faults = first.kept (λ is. absurd (cc)) in
    record {
      later = omega (arith, kept, syncs.later);
      fault = λ is. subst (λ n. Rose n new.faults) kept (syncs.fault (ap Err (same_error is)));
      kept = tt;
      told = syncs.told ∙ first.told;
      found = λ d told. tt;
      cause = λ d told. plain_none (contents d) (cause_of e) plain;
      rest = λ d told. tt;
      rest_too = λ d told is. absurd (cc (is, plain));
    }
  where
    same_error : ◌≡◌ {A = Result V OpenError} (Err e) (Err Fault) → e ≡ Fault
    same_error is = cc

synced_at : (names : List Name) (old new : FilesState) → Syncs {T = Unit {0}} (Ok tt) (λ d. all_synced d names) old new → Lists names old → (d : Directory) → directory old ≡ Some d → directory new ≡ Some (rested (contents d))
synced_at names old new syncs lists d told = syncs.done ∙ ap (option_map (λ d. all_synced d names)) told ∙ ap (λ ns. Some (all_synced d ns)) (lists d told) ∙ ap Some (all_synced-keys d)

pub lists_synced : (names : List Name) (old new : FilesState) → Syncs {T = Unit {0}} (Ok tt) (λ d. all_synced d names) old new → Lists names old → Lists names new
lists_synced names old new syncs lists d told = at (directory old) refl
  where
    at : (o : Option Directory) → directory old ≡ o → names ≡ keys d
    at None is = absurd (cc (told, syncs.done, ap (option_map (λ d. all_synced d names)) is))
    at (Some first) is =
        let same : rested (contents first) ≡ d = cc (told, synced_at names old new syncs lists first is) in
        lists first is ∙ sym (keys-contents first) ∙ ap keys (sym (contents-rested (contents first))) ∙ keys-contents (rested (contents first)) ∙ ap keys same

rest_at : {T : Type 0} (x : T) (names : List Name) (s0 s1 s2 : FilesState) → Steps {T = T} (Ok x) s0 s1 → Syncs {T = Unit {0}} (Ok tt) (λ d. all_synced d names) s1 s2 → Lists names s1 → (d : Directory) → directory s0 ≡ Some d → directory s2 ≡ Some (rested (contents d))
rest_at x names s0 s1 s2 first syncs lists d told = synced_at names s1 s2 syncs lists d (first.same (λ is. absurd (cc)) ∙ told)

pub looks_found : {T V : Type 0} (P : Contents → V → Type 0) (x : T) (result : Result V OpenError) (names : List Name) (s0 s1 s2 s3 : FilesState) → Steps {T = T} (Ok x) s0 s1 → Syncs {T = Unit {0}} (Ok tt) (λ d. all_synced d names) s1 s2 → Lists names s1 → Sought {T = V} result s2 s3 (λ d v. P (contents d) v) → Looks {T = V} result s0 s3 P
looks_found {T} {V} P x (Ok v) names s0 s1 s2 s3 first syncs lists sought =
    let one : s1.faults ≡ s0.faults = first.kept (λ is. absurd (cc)) in
    let all : s2.faults ≡ s0.faults = syncs.kept ∙ one in
    record {
      later = omega (arith, all, sought.steps.later);
      fault = λ is. absurd (cc);
      kept = sought.steps.kept (λ is. absurd (cc)) ∙ all;
      told = sought.steps.told ∙ syncs.told ∙ first.told;
      found = λ d told. subst (λ c. P c v) (contents-rested (contents d)) (sought.found (rested (contents d)) (rest_at x names s0 s1 s2 first syncs lists d told));
      cause = λ d told. tt;
      rest = λ d told. sought.steps.same (λ is. absurd (cc)) ∙ rest_at x names s0 s1 s2 first syncs lists d told;
      rest_too = λ d told. tt;
    }
looks_found {T} {V} P x (Err e) names s0 s1 s2 s3 first syncs lists sought =
    let one : s1.faults ≡ s0.faults = first.kept (λ is. absurd (cc)) in
    let all : s2.faults ≡ s0.faults = syncs.kept ∙ one in
    record {
      later = omega (arith, all, sought.steps.later);
      fault = λ is. subst (λ n. Rose n s3.faults) all (sought.steps.fault is);
      kept = tt;
      told = sought.steps.told ∙ syncs.told ∙ first.told;
      found = λ d told. tt;
      cause = λ d told. subst (λ c. IsCauseIn c e) (contents-rested (contents d)) (sought.cause (rested (contents d)) (rest_at x names s0 s1 s2 first syncs lists d told));
      rest = λ d told. tt;
      rest_too = λ d told is. sought.steps.same (λ same. no_fault is same) ∙ rest_at x names s0 s1 s2 first syncs lists d told;
    }
  where
    no_fault : IsCause e → ◌≢◌ {A = Result V OpenError} (Err e) (Err Fault)
    no_fault is same = let equal : e ≡ Fault = cc (same) in absurd (cc (is, ap cause_of equal))
