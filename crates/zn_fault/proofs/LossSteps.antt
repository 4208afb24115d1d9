-- What zones lose one after another, and what a device that is harmed so holds.
use Rattle.std.proofs.Common.{◌≡◌, ℕ, zero, suc, ◌+◌, ◌<◌, ◌≤◌, ◌≢◌, min, max, Bool, false, List, length, Ok, Err, refl, sym, ap, ◌∙◌, subst, inl, inr, add-one, arith}
use Rattle.std.specs.Prelude.{unwrap_or}
use Rattle.std.proofs.Math.ListN.{get_or-map}
use Rattle.std.proofs.lemmas.Bool.{cases_eq}
use Rattle.std.proofs.lemmas.List.{length-map, length-set, get_or-set_same, get_or-set_other, ext_get_or}
use Rattle.zn_truth.specs.declared.DevError.{DevError}
use Rattle.zn_truth.specs.declared.Kind.{Kind}
use Rattle.zn_truth.specs.declared.Kind.TheVariants.{Conventional, Sequential}
use Rattle.zn_truth.specs.declared.LossSpec.{LossSpec}
use Rattle.zn_truth.specs.declared.Shape.{Shape}
use Rattle.zn_truth.specs.declared.ZoneInfo.{ZoneInfo}
use Rattle.zn_truth.specs.declared.ZoneNo.{ZoneNo}
use Rattle.zn_truth.specs.Truth.{Truth, Zone, no_zone, zone_at, with_zone, seen, kind_at, info_at}
use Rattle.zn_truth.specs.Orders.{Reply}
use Rattle.zn_truth.specs.Power.{settled, clamped, cut_of, zone_lost, zones_lost, lost}
use Rattle.zn_truth.specs.World.{World, geometry_of}
use Rattle.zn_truth.proofs.Issuing.{kind_is}
use Rattle.zn_truth.proofs.SoundLoss.{length-zones_lost, get_or-zones_lost}
use Rattle.zn_device.specs.Harms.{Harmed, scrubbed, rested}
use Rattle.zn_device.specs.States.{DeviceState}
use Rattle.zn_device.proofs.Harms.{rested-geometry}
use Rattle.zn_fault.specs.Losses.{left_of, lost_at, lost_below, LossIsZoneByZone}
use Rattle.zn_fault.proofs.Harming.{then_harmed, truth_between, unharmed}

-- ---- zones, one after another

length-lost_below : (n : ℕ) (t : Truth) (loss : LossSpec) → length (lost_below n t loss).zones ≡ length t.zones
unfolding lost_below
length-lost_below zero t loss = refl
length-lost_below (suc n) t loss = length-set (lost_below n t loss).zones n _ ∙ length-lost_below n t loss

told-lost_below : (n : ℕ) (t : Truth) (loss : LossSpec) → (lost_below n t loss).told ≡ t.told
unfolding lost_below
told-lost_below zero t loss = refl
told-lost_below (suc n) t loss = told-lost_below n t loss

shape-lost_below : (n : ℕ) (t : Truth) (loss : LossSpec) → (lost_below n t loss).shape ≡ t.shape
unfolding lost_below
shape-lost_below zero t loss = refl
shape-lost_below (suc n) t loss = shape-lost_below n t loss

-- the zone that loses something, and the others
here : (t : Truth) (z : ℕ) (loss : LossSpec) → z < length t.zones → zone_at (lost_at t z loss) z ≡ seen t.told (left_of (zone_at t z).kind (zone_at t z) z loss)
here t z loss below = get_or-set_same t.zones z (seen t.told (left_of (zone_at t z).kind (zone_at t z) z loss)) no_zone below

elsewhere : (t : Truth) (z : ℕ) (loss : LossSpec) (k : ℕ) → k ≢ z → zone_at (lost_at t z loss) k ≡ zone_at t k
elsewhere t z loss k apart = get_or-set_other t.zones z k (seen t.told (left_of (zone_at t z).kind (zone_at t z) z loss)) no_zone apart

-- a zone whose turn hasn't come is as it was
zone_before : (n : ℕ) (t : Truth) (loss : LossSpec) (k : ℕ) → n ≤ k → zone_at (lost_below n t loss) k ≡ zone_at t k
unfolding lost_below
zone_before zero t loss k later = refl
zone_before (suc n) t loss k later =
    let apart : k ≢ n = omega arith in
    elsewhere (lost_below n t loss) n loss k apart ∙ zone_before n t loss k (omega arith)

-- what a zone is after its turn
abbrev left_at : Truth → ℕ → LossSpec → Zone
left_at t k loss = seen t.told (left_of (zone_at t k).kind (zone_at t k) k loss)

zone_now : (n : ℕ) (t : Truth) (loss : LossSpec) → n < length t.zones → zone_at (lost_at (lost_below n t loss) n loss) n ≡ left_at t n loss
zone_now n t loss inside =
    let u = lost_below n t loss in
    here u n loss (omega (arith, length-lost_below n t loss))
    ∙ ap (λ (zone : Zone). seen u.told (left_of zone.kind zone n loss)) (zone_before n t loss n (omega arith))
    ∙ ap (λ (told : Bool). seen told (left_of (zone_at t n).kind (zone_at t n) n loss)) (told-lost_below n t loss)

zone_more : (n : ℕ) (t : Truth) (loss : LossSpec) (k : ℕ) → k < suc n → k < length t.zones → (k < n → zone_at (lost_below n t loss) k ≡ left_at t k loss)
    → zone_at (lost_at (lost_below n t loss) n loss) k ≡ left_at t k loss
zone_more n t loss k earlier below before = elim (cases_eq k n) as (λ _. zone_at (lost_at (lost_below n t loss) n loss) k ≡ left_at t k loss) [
  | inl same ↦ subst (λ (i : ℕ). zone_at (lost_at (lost_below n t loss) n loss) i ≡ left_at t i loss) (sym same) (zone_now n t loss (omega (arith, same)))
  | inr apart ↦ elsewhere (lost_below n t loss) n loss k apart ∙ before (omega arith)
]

-- and one whose turn was is what is left of it
zone_after : (n : ℕ) (t : Truth) (loss : LossSpec) (k : ℕ) → k < n → k < length t.zones → zone_at (lost_below n t loss) k ≡ left_at t k loss
unfolding lost_below
zone_after zero t loss k earlier below = absurd (omega arith)
zone_after (suc n) t loss k earlier below = zone_more n t loss k earlier below (λ less. zone_after n t loss k less below)

-- what is left of a zone, closed
left_closed : (told : Bool) (kind : Kind) (zone : Zone) (z : ℕ) (loss : LossSpec) → record (seen told (left_of kind zone z loss)) { explicit = false } ≡ seen told (zone_lost kind zone z loss)
left_closed told Conventional zone z loss = refl
left_closed told Sequential zone z loss = refl

zones_left : (t : Truth) (loss : LossSpec) → (rested (lost_below (length t.zones) t loss)).zones ≡ zones_lost t.told 0 t.zones loss
zones_left t loss =
    let u = lost_below (length t.zones) t loss in
    let long : length (rested u).zones ≡ length t.zones = length-map u.zones (λ (zone : Zone). record zone { explicit = false }) ∙ length-lost_below (length t.zones) t loss in
    ext_get_or no_zone (rested u).zones (zones_lost t.told 0 t.zones loss) (long ∙ sym (length-zones_lost t.told 0 t.zones loss))
    (λ k inside.
    let below : k < length t.zones = omega arith in
    get_or-map (λ (zone : Zone). record zone { explicit = false }) u.zones k no_zone
    ∙ ap (λ (zone : Zone). record zone { explicit = false }) (zone_after (length t.zones) t loss k below below)
    ∙ left_closed t.told (zone_at t k).kind (zone_at t k) k loss
    ∙ ap (λ (i : ℕ). seen t.told (zone_lost (zone_at t k).kind (zone_at t k) i loss)) (omega arith)
    ∙ sym (get_or-zones_lost t.told 0 t.zones loss k below))

-- the zones one after another, and then closed, are the loss
pub loss_by_zones : LossIsZoneByZone
unfolding lost
loss_by_zones t loss =
    let u = lost_below (length t.zones) t loss in
    ap (λ (told : Bool). let v : Truth = record { told = told; shape = u.shape; zones = (rested u).zones } in v) (told-lost_below (length t.zones) t loss)
    ∙ ap (λ (shape : Shape). let v : Truth = record { told = t.told; shape = shape; zones = (rested u).zones } in v) (shape-lost_below (length t.zones) t loss)
    ∙ ap (λ (zones : List Zone). let v : Truth = record { told = t.told; shape = t.shape; zones = zones } in v) (zones_left t loss)

-- ---- a device that is harmed so

-- a harm that fails may have been any
pub failed_harmed : (before truth : Truth) (e : DevError) (old new : DeviceState) → Harmed before (Err e) old new → Harmed truth (Err e) old new
failed_harmed before truth e old new h = record {
  done = h.done;
  world = λ answered. absurd (cc (h.done answered));
  geometry = h.geometry;
  caused = h.caused;
}

-- a conventional zone
pub scrub_lost : (z : ℕ) (loss : LossSpec) (r : Reply) (old new : DeviceState) → kind_at (geometry_of old.world) z ≡ Conventional
    → Harmed (with_zone old.world.truth z (scrubbed (zone_at old.world.truth z) loss.fill)) r old new → Harmed (lost_at old.world.truth z loss) r old new
scrub_lost z loss r old new conventional h =
    let t = old.world.truth in
    subst (λ (k : Kind). Harmed (with_zone t z (left_of k (zone_at t z) z loss)) r old new) (sym (sym (kind_is old.world z) ∙ conventional)) h

-- a sequential zone, which was asked before
pub settle_lost : (z from len : ℕ) (loss : LossSpec) (r : Reply) (old middle new : DeviceState) → kind_at (geometry_of old.world) z ≡ Sequential
    → Harmed old.world.truth (Ok tt) old middle → from ≡ (zone_at middle.world.truth z).durable
    → len ≡ clamped (zone_at middle.world.truth z) (unwrap_or (cut_of loss.cuts z) (zone_at middle.world.truth z).durable)
    → Harmed (with_zone middle.world.truth z (settled (zone_at middle.world.truth z) from len loss.fill)) r middle new → Harmed (lost_at old.world.truth z loss) r old new
settle_lost z from len loss r old middle new sequential asked from_is len_is h =
    let settle : Truth → ℕ → ℕ → Truth = λ t a b. with_zone t z (settled (zone_at t z) a b loss.fill) in
    let same : settle middle.world.truth from len ≡ lost_at old.world.truth z loss =
    ap (λ a. settle middle.world.truth a len) from_is ∙ ap (settle middle.world.truth (zone_at middle.world.truth z).durable) len_is
    ∙ ap (λ (t : Truth). settle t (zone_at t z).durable (clamped (zone_at t z) (unwrap_or (cut_of loss.cuts z) (zone_at t z).durable))) (truth_between asked)
    ∙ ap (λ (k : Kind). with_zone old.world.truth z (left_of k (zone_at old.world.truth z) z loss)) (sym (sym (kind_is old.world z) ∙ sequential)) in
    then_harmed old.world.truth (lost_at old.world.truth z loss) r old middle new asked (subst (λ (t : Truth). Harmed t r middle new) same h)

-- the length of which it was asked, as the definition has it
pub cut_length : (z : ℕ) (cuts : List (ZoneNo × ℕ)) (old middle : DeviceState) (info : ZoneInfo) (durable cut len : ℕ) → Harmed old.world.truth (Ok tt) old middle → info ≡ info_at old.world.truth z
    → durable ≡ (zone_at middle.world.truth z).durable → cut ≡ unwrap_or (cut_of cuts z) durable → len ≡ min (max cut durable) info.held
    → len ≡ clamped (zone_at middle.world.truth z) (unwrap_or (cut_of cuts z) (zone_at middle.world.truth z).durable)
cut_length z cuts old middle info durable cut len asked told durable_is cut_is len_is =
    let held : info.held ≡ (zone_at middle.world.truth z).held = ap (λ (i : ZoneInfo). i.held) told ∙ ap (λ (t : Truth). (zone_at t z).held) (sym (truth_between asked)) in
    len_is ∙ ap (λ n. min (max n durable) info.held) cut_is ∙ ap (λ n. min (max (unwrap_or (cut_of cuts z) n) n) info.held) durable_is
    ∙ ap (λ n. min (max (unwrap_or (cut_of cuts z) (zone_at middle.world.truth z).durable) (zone_at middle.world.truth z).durable) n) held

-- no zone yet
pub none_harmed : (loss : LossSpec) (s : DeviceState) → s.spoilt ≡ false → Harmed (lost_below 0 s.world.truth loss) (Ok tt) s s
unfolding lost_below
none_harmed loss s unspoilt = unharmed s unspoilt

-- one zone more
pub zone_harmed : (n : ℕ) (loss : LossSpec) (r : Reply) (old middle new : DeviceState) → Harmed (lost_below n old.world.truth loss) (Ok tt) old middle → Harmed (lost_at middle.world.truth n loss) r middle new
    → Harmed (lost_below (n + 1) old.world.truth loss) r old new
unfolding lost_below
zone_harmed n loss r old middle new first second =
    subst (λ (i : ℕ). Harmed (lost_below i old.world.truth loss) r old new) (sym (add-one n))
    (then_harmed (lost_below n old.world.truth loss) (lost_below (suc n) old.world.truth loss) r old middle new first (subst (λ (t : Truth). Harmed (lost_at t n loss) r middle new) (truth_between first) second))

-- the zones are closed
rest_harmed : (t : Truth) (old middle : DeviceState) → Harmed t (Ok tt) old middle → Harmed (rested t) (Ok tt) old (record middle { world = record middle.world { truth = rested middle.world.truth } })
unfolding geometry_of
rest_harmed t old middle h = record {
  done = h.done;
  world = λ answered. ap (λ (w : World). let v : World = record w { truth = rested w.truth } in v) (h.world answered);
  geometry = rested-geometry middle.world.truth ∙ h.geometry;
  caused = record {
    spoilt = h.caused.spoilt;
    cause = h.caused.cause;
    memory = h.caused.memory;
    same = h.caused.same;
    keeps = h.caused.keeps;
    powered = h.caused.powered;
    still_powered = h.caused.still_powered;
    no_fault = h.caused.no_fault;
  };
}

pub all_harmed : (n : ℕ) (loss : LossSpec) (old middle new : DeviceState) → n ≡ length old.world.truth.zones → Harmed (lost_below n old.world.truth loss) (Ok tt) old middle
    → new ≡ record middle { world = record middle.world { truth = rested middle.world.truth } } → Harmed (lost old.world.truth loss) (Ok tt) old new
all_harmed n loss old middle new all h is =
    let t = old.world.truth in
    subst (λ (s : DeviceState). Harmed (lost t loss) (Ok tt) old s) (sym is)
    (subst (λ (u : Truth). Harmed u (Ok tt) old (record middle { world = record middle.world { truth = rested middle.world.truth } })) (loss_by_zones t loss)
    (rest_harmed (lost_below (length t.zones) t loss) old middle (subst (λ (i : ℕ). Harmed (lost_below i t loss) (Ok tt) old middle) all h)))
