-- What harm from outside makes of a device in memory.
use Rattle.std.proofs.Common.{◌≡◌, ◌⊎◌, ℕ, ◌<◌, ◌≤◌, Bool, true, false, List, [], ◌∷◌, length, map, set, get_or, Option, Ok, refl, sym, ap, ◌∙◌, subst, inl, ⊎_elim, arith}
use Rattle.std.specs.Prelude.{IsTrue}
use Rattle.std.proofs.Math.ListN.{get_or-map}
use Rattle.std.proofs.lemmas.Bool.{false≢true}
use Rattle.std.proofs.lemmas.Bool.Decides.{nat_tests}
use Rattle.std.proofs.lemmas.Grind.{common_steps}
use Rattle.std.proofs.lemmas.List.{length-map, set-get_or}
use Rattle.zn_truth.specs.declared.Kind.{Kind}
use Rattle.zn_truth.specs.declared.Kind.TheVariants.{Conventional, Sequential}
use Rattle.zn_truth.specs.declared.Cond.{Cond}
use Rattle.zn_truth.specs.declared.Cond.TheVariants.{Good, ReadOnly}
use Rattle.zn_truth.specs.declared.Shape.{Shape}
use Rattle.zn_truth.specs.declared.ZoneInfo.{ZoneInfo}
use Rattle.zn_truth.specs.Truth.{Zone, Truth, Geometry, no_zone, zone_at, with_zone, seen, kind_at, geometry, is_sequential, is_active, active, explicit, IsSoundZone, IsSound}
use Rattle.zn_truth.specs.Orders.{flushed}
use Rattle.zn_truth.specs.Loss.{turned_by, turned}
use Rattle.zn_truth.specs.Power.{settled}
use Rattle.zn_truth.specs.Inject.{severity}
use Rattle.zn_truth.specs.Limits.{IsWithinLimits}
use Rattle.zn_truth.specs.World.{calm, geometry_of}
use Rattle.zn_truth.specs.Obeying.{IsZoneToManage}
use Rattle.zn_truth.proofs.Issuing.{zones-in_geometry, kind-in_geometry}
use Rattle.zn_truth.proofs.Sound.{with_zone_sound, with_zone-geometry}
use Rattle.zn_truth.proofs.SoundInject.{turned_sound, turned-geometry}
use Rattle.zn_truth.proofs.SoundIssue.{settle_sound, settle-geometry}
use Rattle.zn_truth.proofs.SoundLoss.{length-with_fill_unflushed, count_by-le, count_by-none}
use Rattle.zn_zone.specs.declared.Raw.{Raw}
use Rattle.zn_zone.specs.declared.Raw.TheVariants.{Full}
use Rattle.zn_zone.specs.Facts.{ZoneFacts, Facts, zone_facts, facts_of, facts_at, with_facts, with_held, info_of, bare, rested as rested_facts}
use Rattle.zn_zone.specs.Machine.{Machine, state_at, facts_in, facts, fits, IsSoundMachine}
use Rattle.zn_zone.proofs.Truths.{facts_at-zone, turned-facts}
use Rattle.zn_device.specs.declared.store.Store.{Store}
use Rattle.zn_device.specs.Harms.{Harmed, scrubbed, rested}
use Rattle.zn_device.specs.Memory.{calm_state}
use Rattle.zn_device.specs.Stores.{zone_of, zones_of, Keeps, truth_of, HasBuffer, HasStores, IsSoundDevice}
use Rattle.zn_device.proofs.Places.{zones_in}
use Rattle.zn_device.proofs.Stores.{facts_of-truth_of, truth_of-put, facts_of-with_zone, zone_at-truth_of, facts_at-facts}

-- ---- a zone, as the machine has it

pub facts_told : (f : Facts) (stores : List Store) (z : ℕ) → length stores ≡ length f.zones → zone_facts (zone_at (truth_of f stores) z) ≡ facts_at f z
facts_told f stores z count = sym (facts_at-zone (truth_of f stores) z) ∙ ap (λ (g : Facts). facts_at g z) (facts_of-truth_of f stores count)

pub zone_told : (m : Machine) (stores : List Store) (z : ℕ) → length stores ≡ length (facts m).zones → zone_facts (zone_at (truth_of (facts m) stores) z) ≡ facts_in (state_at m z)
zone_told m stores z count = facts_told (facts m) stores z count ∙ facts_at-facts m z

-- a zone of the device is one of the machine
pub zone_below : (m : Machine) (stores : List Store) (z : ℕ) → IsSoundDevice (facts m) stores → z < length (geometry (truth_of (facts m) stores)).kinds → z < length m.zones
zone_below m stores z device below = omega (arith, zones_in m stores device)

-- a full zone holds its capacity
full_holds : (shape : Shape) (kind : Kind) (raw : Raw) (held : ℕ) → raw ≡ Full → IsTrue (fits shape kind raw held) → held ≡ shape.zone_capacity
full_holds shape kind raw held is fit = let f : IsTrue (fits shape kind Full held) = subst (λ r. IsTrue (fits shape kind r held)) is fit in grind (arith, nat_tests)

-- and is durable as a whole, so that no part of it is cut away
pub full_stays : (m : Machine) (stores : List Store) (z from len : ℕ) → IsSoundDevice (facts m) stores → IsSoundMachine m → z < length m.zones
    → (state_at m z).kind ≡ Sequential → (zone_at (truth_of (facts m) stores) z).durable ≤ from → from ≤ len → len ≤ (zone_at (truth_of (facts m) stores) z).held
    → (state_at m z).raw ≡ Full → len ≡ m.shape.zone_capacity
full_stays m stores z from len device machine below kind least order most full =
    let zone = zone_at (truth_of (facts m) stores) z in
    let there : z < length (truth_of (facts m) stores).zones = omega (arith, zones_in m stores device, zones-in_geometry (truth_of (facts m) stores)) in
    let told : zone_facts zone ≡ facts_in (state_at m z) = zone_told m stores z device.stored.count in
    let same : zone.held ≡ (state_at m z).held = ap (λ (v : ZoneFacts). v.held) told in
    let sequential : is_sequential zone.kind ≡ true = ap (λ (v : ZoneFacts). is_sequential v.kind) told ∙ ap is_sequential kind in
    let whole : (state_at m z).held ≡ m.shape.zone_capacity = full_holds m.shape (state_at m z).kind (state_at m z).raw (state_at m z).held full (machine.zones z below) in
    let durable : zone.durable ≡ zone.held = (device.sound.zones z there).full sequential (same ∙ whole) in
    omega arith

-- what is made durable as a whole turned to any condition but offline
pub turned_store : (old new : Store) (kind : Kind) (info : ZoneInfo) (to : Cond) → (to ≡ Good) ⊎ (to ≡ ReadOnly) → Keeps new (flushed (zone_of kind info old)) → Keeps new (turned_by to (zone_of kind info old))
turned_store old new kind info to is keeps = ⊎_elim
    (λ good. subst (λ (v : Cond). Keeps new (turned_by v (zone_of kind info old))) (sym good) (ap (λ (zone : Zone). record zone { cond = Good; explicit = false }) keeps))
    (λ read_only. subst (λ (v : Cond). Keeps new (turned_by v (zone_of kind info old))) (sym read_only) (ap (λ (zone : Zone). record zone { cond = ReadOnly; explicit = false }) keeps))
    is

-- ---- what the device holds

-- a zone that turned
pub turn_truth : (f g : Facts) (stores : List Store) (z : ℕ) (to : Cond) (info : ZoneInfo) (store new : Store) → g ≡ facts_of (turned (bare f) z to)
    → length stores ≡ length f.zones → z < length f.zones → store ≡ get_or stores z store → info ≡ info_of (facts_at f z)
    → Keeps new (turned_by to (zone_of (facts_at f z).kind info store)) → truth_of g (set stores z new) ≡ turned (truth_of f stores) z to
unfolding turned
turn_truth f g stores z to info store new is count below there info_is keeps =
    let t = truth_of f stores in
    let zone = turned_by to (zone_of (facts_at f z).kind info store) in
    let same : facts_of t ≡ f = facts_of-truth_of f stores count in
    let by : with_zone t z (turned_by to (zone_at t z)) ≡ with_zone t z zone =
    ap (λ (v : Zone). with_zone t z (turned_by to v)) (zone_at-truth_of f stores z store count below there ∙ ap (λ i. zone_of (facts_at f z).kind i store) (sym info_is)) in
    ap (λ h. truth_of h (set stores z new))
    (is ∙ ap (λ h. facts_of (turned (bare h) z to)) (sym same) ∙ sym (turned-facts t z to) ∙ ap facts_of by ∙ facts_of-with_zone t z zone ∙ ap (λ h. with_facts h z (zone_facts zone)) same)
    ∙ truth_of-put f stores z zone new keeps ∙ sym by

-- a zone that is settled
pub settle_truth : (f g : Facts) (stores : List Store) (z from len : ℕ) (fill : Option ℕ) (store new : Store) → g ≡ with_held f z len
    → length stores ≡ length f.zones → z < length f.zones → store ≡ get_or stores z store → (facts_at f z).kind ≡ Sequential
    → Keeps new (settled (zone_of Sequential (info_of (facts_at f z)) store) from len fill)
    → truth_of g (set stores z new) ≡ with_zone (truth_of f stores) z (settled (zone_at (truth_of f stores) z) from len fill)
settle_truth f g stores z from len fill store new is count below there kind keeps =
    let t = truth_of f stores in
    let zone = settled (zone_of Sequential (info_of (facts_at f z)) store) from len fill in
    let by : with_zone t z (settled (zone_at t z) from len fill) ≡ with_zone t z zone =
    ap (λ (v : Zone). with_zone t z (settled v from len fill)) (zone_at-truth_of f stores z store count below there ∙ ap (λ k. zone_of k (info_of (facts_at f z)) store) kind) in
    ap (λ h. truth_of h (set stores z new))
    (is ∙ ap (λ k. let zs : ZoneFacts = record { kind = k; cond = (facts_at f z).cond; held = len; explicit = (facts_at f z).explicit } in with_facts f z zs) kind)
    ∙ truth_of-put f stores z zone new keeps ∙ sym by

-- a zone that is scrubbed
pub scrub_truth : (f : Facts) (stores : List Store) (z : ℕ) (fill : Option ℕ) (store new : Store)
    → length stores ≡ length f.zones → z < length f.zones → store ≡ get_or stores z store → (facts_at f z).kind ≡ Conventional
    → Keeps new (scrubbed (zone_of Conventional (info_of (facts_at f z)) store) fill)
    → truth_of f (set stores z new) ≡ with_zone (truth_of f stores) z (scrubbed (zone_at (truth_of f stores) z) fill)
scrub_truth f stores z fill store new count below there kind keeps =
    let t = truth_of f stores in
    let zone = scrubbed (zone_of Conventional (info_of (facts_at f z)) store) fill in
    let by : with_zone t z (scrubbed (zone_at t z) fill) ≡ with_zone t z zone =
    ap (λ (v : Zone). with_zone t z (scrubbed v fill)) (zone_at-truth_of f stores z store count below there ∙ ap (λ k. zone_of k (info_of (facts_at f z)) store) kind) in
    ap (λ zones. truth_of (record f { zones = zones }) (set stores z new)) (sym (set-get_or f.zones z (zone_facts no_zone)))
    ∙ ap (λ k. let zs : ZoneFacts = record { kind = k; cond = (facts_at f z).cond; held = (facts_at f z).held; explicit = (facts_at f z).explicit } in truth_of (with_facts f z zs) (set stores z new)) kind
    ∙ truth_of-put f stores z zone new keeps ∙ sym by

-- zones that rest
rest_zones : (zones : List ZoneFacts) (stores : List Store)
    → zones_of (map (λ (zone : ZoneFacts). record zone { explicit = false }) zones) stores ≡ map (λ (zone : Zone). record zone { explicit = false }) (zones_of zones stores)
rest_zones [] stores = refl
rest_zones (zone ∷ zones) [] = refl
rest_zones (zone ∷ zones) (store ∷ stores) =
    ap (λ all. record (zone_of zone.kind (info_of zone) store) { explicit = false } ∷ all) (rest_zones zones stores)

pub rest_truth : (f g : Facts) (stores : List Store) → g ≡ rested_facts f → truth_of g stores ≡ rested (truth_of f stores)
rest_truth f g stores is = ap (λ h. truth_of h stores) is ∙ ap (λ zones. let t : Truth = record { told = true; shape = f.shape; zones = zones } in t) (rest_zones f.zones stores)

-- ---- what is sound

scrubbed_sound : (told : Bool) (shape : Shape) (zone : Zone) (fill : Option ℕ) → IsSoundZone told shape zone → zone.kind ≡ Conventional → IsSoundZone told shape (seen told (scrubbed zone fill))
scrubbed_sound told shape zone fill sound kind =
    let filled = length-with_fill_unflushed fill zone.unflushed zone.bytes in
    grind (arith, nat_tests, common_steps)

-- a conventional zone whose unflushed blocks are made durable
scrub_sound : (t : Truth) (z : ℕ) (fill : Option ℕ) → IsSound t → z < length t.zones → (zone_at t z).kind ≡ Conventional → IsSound (with_zone t z (scrubbed (zone_at t z) fill))
scrub_sound t z fill sound below kind = with_zone_sound t z (scrubbed (zone_at t z) fill) sound below (scrubbed_sound t.told t.shape (zone_at t z) fill (sound.zones z below) kind) inl inl

closed_sound : (told : Bool) (shape : Shape) (zone : Zone) → IsSoundZone told shape zone → IsSoundZone told shape (record zone { explicit = false })
closed_sound told shape zone sound = record {
  held = sound.held;
  bytes = sound.bytes;
  durable = sound.durable;
  full = sound.full;
  offline = sound.offline;
  settled = sound.settled;
  flushed = sound.flushed;
  conventional = sound.conventional;
  whole = sound.whole;
  flags = sound.flags;
  explicit = λ is. absurd (false≢true is);
}

closed_active : (shape : Shape) (zone : Zone) → is_active shape (record zone { explicit = false }) ≡ true → is_active shape zone ≡ true
closed_active shape zone is = grind (arith, nat_tests)

rested_at : (t : Truth) (k : ℕ) → zone_at (rested t) k ≡ record (zone_at t k) { explicit = false }
rested_at t k = get_or-map (λ (zone : Zone). record zone { explicit = false }) t.zones k no_zone

-- zones that are closed
rested_sound : (t : Truth) → IsSound t → IsSound (rested t)
rested_sound t sound =
    let same : length (rested t).zones ≡ length t.zones = length-map t.zones (λ (zone : Zone). record zone { explicit = false }) in
    record {
      zones = λ k below. rw (rested_at t k) (closed_sound t.told t.shape (zone_at t k) (sound.zones k (omega arith)));
      active = λ on.
          let fewer : active (rested t) ≤ active t = count_by-le (is_active t.shape) no_zone t.zones (rested t).zones same
          (λ k below is. closed_active t.shape (zone_at t k) (ap (is_active t.shape) (sym (rested_at t k)) ∙ is)) in
          let before : active t ≤ t.shape.max_active = sound.active on in
          omega arith;
      explicit = λ on.
          let none : explicit (rested t) ≡ 0 = count_by-none (λ (zone : Zone). zone.explicit) no_zone (rested t).zones (λ k below. ap (λ (zone : Zone). zone.explicit) (rested_at t k)) in
          omega arith;
    }

rested_kinds : (zones : List Zone) → map (λ (zone : Zone). zone.kind) (map (λ (zone : Zone). record zone { explicit = false }) zones) ≡ map (λ (zone : Zone). zone.kind) zones
rested_kinds [] = refl
rested_kinds (zone ∷ zones) = ap (λ kinds. zone.kind ∷ kinds) (rested_kinds zones)

pub rested-geometry : (t : Truth) → geometry (rested t) ≡ geometry t
rested-geometry t = ap (λ kinds. let g : Geometry = record { shape = t.shape; kinds = kinds } in g) (rested_kinds t.zones)

-- ---- what the device owes

-- a device that holds a sound truth of the same geometry
device_with : (f g : Facts) (stores new : List Store) (u : Truth) → IsSoundDevice f stores → HasStores g new → truth_of g new ≡ u → IsSound u → geometry u ≡ geometry (truth_of f stores) → IsSoundDevice g new
device_with f g stores new u device stored is sound same = record {
  stored = stored;
  sound = subst IsSound (sym is) sound;
  within = subst (λ (h : Geometry). ∥ IsWithinLimits h ∥₁) (sym (ap geometry is ∙ same)) device.within;
}

pub device_turned : (f g : Facts) (stores new : List Store) (z : ℕ) (to : Cond) → IsSoundDevice f stores → z < length (geometry_of (calm (truth_of f stores))).kinds
    → severity (zone_at (truth_of f stores) z).cond < severity to → HasStores g new → truth_of g new ≡ turned (truth_of f stores) z to → IsSoundDevice g new
unfolding geometry_of
device_turned f g stores new z to device below worse stored is =
    let t = truth_of f stores in
    device_with f g stores new (turned t z to) device stored is (turned_sound t z to device.sound (omega (arith, zones-in_geometry t)) worse) (turned-geometry t z to)

pub device_settled : (f g : Facts) (stores new : List Store) (z from len : ℕ) (fill : Option ℕ) → IsSoundDevice f stores → IsZoneToManage (geometry_of (calm (truth_of f stores))) z
    → (zone_at (truth_of f stores) z).durable ≤ len → len ≤ (zone_at (truth_of f stores) z).held → HasStores g new
    → truth_of g new ≡ with_zone (truth_of f stores) z (settled (zone_at (truth_of f stores) z) from len fill) → IsSoundDevice g new
unfolding geometry_of
device_settled f g stores new z from len fill device fits least most stored is =
    let t = truth_of f stores in
    device_with f g stores new (with_zone t z (settled (zone_at t z) from len fill)) device stored is
    (settle_sound t z from len fill device.sound (omega (arith, fits.zone, zones-in_geometry t)) (sym (kind-in_geometry t z) ∙ fits.kind) least most)
    (settle-geometry t z from len fill)

pub device_scrubbed : (f : Facts) (stores new : List Store) (z : ℕ) (fill : Option ℕ) → IsSoundDevice f stores → z < length (geometry_of (calm (truth_of f stores))).kinds
    → kind_at (geometry_of (calm (truth_of f stores))) z ≡ Conventional → HasStores f new
    → truth_of f new ≡ with_zone (truth_of f stores) z (scrubbed (zone_at (truth_of f stores) z) fill) → IsSoundDevice f new
unfolding geometry_of
device_scrubbed f stores new z fill device below kind stored is =
    let t = truth_of f stores in
    device_with f f stores new (with_zone t z (scrubbed (zone_at t z) fill)) device stored is
    (scrub_sound t z fill device.sound (omega (arith, zones-in_geometry t)) (sym (kind-in_geometry t z) ∙ kind))
    (with_zone-geometry t z (scrubbed (zone_at t z) fill) refl)

-- no store changes where zones rest
rested_stored : (f : Facts) (stores : List Store) → HasStores f stores → HasStores (rested_facts f) stores
rested_stored f stores stored = record {
  count = stored.count ∙ sym (length-map f.zones (λ (zone : ZoneFacts). record zone { explicit = false }));
  buffers = λ z other below.
      let kind : (facts_at (rested_facts f) z).kind ≡ (facts_at f z).kind = ap (λ (zone : ZoneFacts). zone.kind) (get_or-map (λ (zone : ZoneFacts). record zone { explicit = false }) f.zones z (zone_facts no_zone)) in
      subst (λ k. HasBuffer f.shape k (get_or stores z other)) (sym kind) (stored.buffers z other below);
}

pub device_rested : (f g : Facts) (stores : List Store) → g ≡ rested_facts f → IsSoundDevice f stores → IsSoundDevice g stores
device_rested f g stores is device =
    let t = truth_of f stores in
    device_with f g stores stores (rested t) device (subst (λ h. HasStores h stores) (sym is) (rested_stored f stores device.stored)) (rest_truth f g stores is)
    (rested_sound t device.sound) (rested-geometry t)

-- a device that has power and never fails is harmed as is meant
pub calm_harmed : (t u v : Truth) → v ≡ u → geometry u ≡ geometry t → Harmed u (Ok tt) (calm_state t) (calm_state v)
unfolding geometry_of
calm_harmed t u v is same = record {
  done = λ answered. refl;
  world = λ answered. ap calm is;
  geometry = ap geometry is ∙ same;
  caused = record {
    spoilt = refl;
    cause = record {
      later = omega arith;
      fault = λ none. absurd (cc);
      kept = λ ok. refl;
      no_fewer = omega arith;
      broken = λ none. absurd (cc);
      whole = λ answered. refl;
    };
    memory = λ free none. absurd (cc);
    same = refl;
    keeps = refl;
    powered = λ none. refl;
    still_powered = λ none. refl;
    no_fault = λ answered pending. refl;
  };
}
