-- The resets of zones, one after another.
use Rattle.std.proofs.Common.{◌≡◌, ℕ, zero, suc, ◌+◌, ◌-◌, ◌<◌, ◌≤◌, Bool, true, false, cond, List, [], ◌∷◌, ◌++◌, length, map, Ok, Err, refl, sym, ap, ◌∙◌, subst, arith}
use Rattle.std.specs.Prelude.{filter, nat_lt, ◌&&◌, if◌then◌else◌, slice_index_or}
use Rattle.std.specs.List.{range_with_len}
use Rattle.std.proofs.lemmas.List.{map-append}
use Rattle.std.proofs.lemmas.List.Elements.{filter-append}
use Rattle.std.proofs.lemmas.List.FromFn.{get_or-map-range_with_len, length-map-range_with_len}
use Rattle.zn_truth.specs.declared.DevError.{DevError}
use Rattle.zn_truth.specs.declared.ZoneInfo.{ZoneInfo}
use Rattle.zn_truth.specs.declared.ZoneOp.TheVariants.{Reset}
use Rattle.zn_truth.specs.Truth.{Geometry, Truth, zone_at, info_at, kind_at, is_sequential, is_good}
use Rattle.zn_truth.specs.Orders.{Order, Manage, Reply}
use Rattle.zn_truth.specs.World.{World, geometry_of}
use Rattle.zn_truth.proofs.Issuing.{kind_is, kinds-length}
use Rattle.zn_device.specs.States.{DeviceState, Ordered}
use Rattle.zn_device.proofs.Ordered.{ordered_append, ordered_failure}
use Rattle.zn_model.specs.Looks.{all_infos}
use Rattle.zn_model.specs.Formatting.{empties, resets, copies}
use Rattle.zn_mkfs.specs.Plans.{no_info, told_of, is_emptied, reset_of, resets_below}
use Rattle.zn_mkfs.specs.Commands.{writes}

-- ---- ranges

range_in_two : (a n k m b : ℕ) → m ≡ n + k → b ≡ a + n → range_with_len a m ≡ range_with_len a n ++ range_with_len b k
range_in_two a zero k m b is at = let e : m ≡ k = omega arith in let f : b ≡ a = omega arith in rw (e, f) refl
range_in_two a (suc n) k m b is at =
    let e : m ≡ suc (n + k) = omega arith in
    rw e (ap (λ (l : List ℕ). a ∷ l) (range_in_two (a + 1) n k (n + k) b refl (omega arith)))

pub filter_alike : (p q : ℕ → Bool) (a n : ℕ) → ((z : ℕ) → a ≤ z → z < a + n → p z ≡ q z) → filter p (range_with_len a n) ≡ filter q (range_with_len a n)
filter_alike p q a zero same = refl
filter_alike p q a (suc n) same =
    let here : p a ≡ q a = same a (omega arith) (omega arith) in
    let rest = filter_alike p q (a + 1) n (λ z l h. same z (omega arith) (omega arith)) in
    rw (here, rest) refl

-- ---- resets

module _ (g : Geometry) (infos : List ZoneInfo) where
  -- those of so many zones from one on
  abbrev resets_from : ℕ → ℕ → List Order
  resets_from a k = map (λ z. Manage z Reset) (filter (is_emptied g infos) (range_with_len a k))

  resets_in_two : (n k m : ℕ) → m ≡ n + k → resets_below g infos m ≡ resets_below g infos n ++ resets_from n k
  resets_in_two n k m is =
      ap (λ (l : List ℕ). map (λ z. Manage z Reset) (filter (is_emptied g infos) l)) (range_in_two 0 n k m n is (omega arith))
      ∙ ap (map (λ z. Manage z Reset)) (filter-append (is_emptied g infos) (range_with_len 0 n) (range_with_len n k))
      ∙ map-append (λ z. Manage z Reset) (filter (is_emptied g infos) (range_with_len 0 n)) (filter (is_emptied g infos) (range_with_len n k))

  only : (z : ℕ) → resets_from z 1 ≡ reset_of g infos z
  only z = by_test (is_emptied g infos z)
    where
      by_test : (b : Bool) → map (λ z. Manage z Reset) (cond b (z ∷ []) []) ≡ (if b then Manage z Reset ∷ [] else [])
      by_test true = refl
      by_test false = refl

  pub resets_step : (z : ℕ) (reply : Reply) (s m t : DeviceState) → Ordered (resets_below g infos z) (Ok tt) s m → Ordered (reset_of g infos z) reply m t → Ordered (resets_below g infos (z + 1)) reply s t
  resets_step z reply s m t h k =
      rw (resets_in_two z 1 (z + 1) refl, only z) (ordered_append (resets_below g infos z) (reset_of g infos z) reply s m t h k)

  pub resets_stopped : (z n : ℕ) (error : DevError) (s m t : DeviceState) → z < n → Ordered (resets_below g infos z) (Ok tt) s m → Ordered (reset_of g infos z) (Err error) m t → Ordered (resets_below g infos n) (Err error) s t
  resets_stopped z n error s m t lt h k =
      rw (resets_in_two (z + 1) (n - (z + 1)) n (omega arith))
      (ordered_failure (resets_below g infos (z + 1)) (resets_from (z + 1) (n - (z + 1))) error s t (resets_step z (Err error) s m t h k))

-- ---- by what a report told

told_is : (t : Truth) (z : ℕ) → z < length t.zones → told_of (all_infos t) z ≡ info_at t z
told_is t z h = get_or-map-range_with_len (info_at t) 0 (length t.zones) z z no_info h (omega arith)

pub infos_length : (t : Truth) → length (all_infos t) ≡ length t.zones
infos_length t = length-map-range_with_len (info_at t) 0 (length t.zones)

emptied_is : (w : World) (z : ℕ) → z < length w.truth.zones → is_emptied (geometry_of w) (all_infos w.truth) z ≡ (nat_lt 0 z && is_sequential (zone_at w.truth z).kind && is_good (zone_at w.truth z).cond)
emptied_is w z h = rw (kind_is w z, told_is w.truth z h) refl

resets_are : (w : World) → resets_below (geometry_of w) (all_infos w.truth) (length w.truth.zones) ≡ resets w.truth
resets_are w =
    ap (map (λ z. Manage z Reset))
    (filter_alike (is_emptied (geometry_of w) (all_infos w.truth)) (λ z. nat_lt 0 z && is_sequential (zone_at w.truth z).kind && is_good (zone_at w.truth z).cond) 0 (length w.truth.zones) (λ z l h. emptied_is w z (omega arith)))

-- ---- all that is written

module _ (w : World) (infos : List ZoneInfo) (block : List ℕ) (sequential : Bool) (g : Geometry)
    (told : infos ≡ all_infos w.truth) (is : sequential ≡ is_sequential (kind_at (geometry_of w) 0)) (same : g ≡ geometry_of w) where
  abbrev emptied_and_reset : List Order
  emptied_and_reset = empties sequential ++ resets w.truth

  -- the three parts in a row
  in_parts : emptied_and_reset ++ copies sequential block ≡ writes w.truth block
  in_parts = ap (λ (b : Bool). empties b ++ resets w.truth ++ copies b block) (is ∙ ap is_sequential (kind_is w 0))

  resets_there : resets_below g infos (length infos) ≡ resets w.truth
  resets_there = rw (same, told, infos_length w.truth) (resets_are w)

  reset_too : (reply : Reply) (s m t : DeviceState) → Ordered (empties sequential) (Ok tt) s m → Ordered (resets_below g infos (length infos)) reply m t → Ordered emptied_and_reset reply s t
  reset_too reply s m t h k =
      ordered_append (empties sequential) (resets w.truth) reply s m t h (subst (λ (l : List Order). Ordered l reply m t) resets_there k)

  pub emptied_failed : (error : DevError) (s t : DeviceState) → Ordered (empties sequential) (Err error) s t → Ordered (writes w.truth block) (Err error) s t
  emptied_failed error s t h =
      subst (λ (l : List Order). Ordered l (Err error) s t) in_parts
      (ordered_failure emptied_and_reset (copies sequential block) error s t (ordered_failure (empties sequential) (resets w.truth) error s t h))

  pub reset_failed : (error : DevError) (s m t : DeviceState) → Ordered (empties sequential) (Ok tt) s m → Ordered (resets_below g infos (length infos)) (Err error) m t → Ordered (writes w.truth block) (Err error) s t
  reset_failed error s m t h k =
      subst (λ (l : List Order). Ordered l (Err error) s t) in_parts
      (ordered_failure emptied_and_reset (copies sequential block) error s t (reset_too (Err error) s m t h k))

  pub all_written : (reply : Reply) (s m n t : DeviceState) → Ordered (empties sequential) (Ok tt) s m → Ordered (resets_below g infos (length infos)) (Ok tt) m n → Ordered (copies sequential block) reply n t → Ordered (writes w.truth block) reply s t
  all_written reply s m n t h k l =
      subst (λ (l : List Order). Ordered l reply s t) in_parts
      (ordered_append emptied_and_reset (copies sequential block) reply s n t (reset_too (Ok tt) s m n h k) l)

-- the places of a report are one for each zone
pub places_are : (w : World) (infos : List ZoneInfo) → infos ≡ all_infos w.truth → length infos ≡ length (geometry_of w).kinds
places_are w infos is = ap (λ (l : List ZoneInfo). length l) is ∙ infos_length w.truth ∙ sym (kinds-length w)

-- the first of them is zone 0
pub first_info : (w : World) (infos : List ZoneInfo) (info : ZoneInfo) → infos ≡ all_infos w.truth → 1 ≤ length (geometry_of w).kinds → info ≡ slice_index_or infos 0 info → info ≡ info_at w.truth 0
first_info w infos info is some at =
    at ∙ ap (λ (l : List ZoneInfo). slice_index_or l 0 info) is ∙ get_or-map-range_with_len (info_at w.truth) 0 (length w.truth.zones) 0 0 info (omega (arith, kinds-length w)) refl
