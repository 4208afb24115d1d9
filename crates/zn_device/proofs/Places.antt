-- Where a command to a device in memory finds what it works on.
use Rattle.std.specs.Prelude.{if◌then◌else◌, nat_lt, vec_capacity}
use Rattle.std.proofs.Common.{◌≡◌, ℕ, ◌+◌, ◌*◌, ◌<◌, ◌≤◌, true, List, [], ◌∷◌, length, map, set, get_or, Some, None, zero-add, refl, sym, ap, ◌∙◌, subst, arith, ⊎_elim}
use Rattle.std.proofs.lemmas.List.{length-map, length-set, get_or-set_same, get_or-set_other}
use Rattle.std.proofs.lemmas.Bool.{cases_eq}
use Rattle.std.proofs.lemmas.Bool.Decides.{nat_tests}
use Rattle.std.proofs.Math.ListN.{get_or-map}
use Rattle.zn_truth.specs.declared.Kind.{Kind}
use Rattle.zn_truth.specs.declared.Kind.TheVariants.{Conventional, Sequential}
use Rattle.zn_truth.specs.declared.Cond.{Cond}
use Rattle.zn_truth.specs.declared.Cond.TheVariants.{Good, ReadOnly, Offline}
use Rattle.zn_truth.specs.declared.DevError.TheVariants.{BeyondWp}
use Rattle.zn_truth.specs.declared.Shape.{Shape}
use Rattle.zn_truth.specs.declared.ZoneInfo.{ZoneInfo}
use Rattle.zn_truth.specs.Truth.{Zone, Truth, Geometry, no_zone, zone_at, room, is_good, kind_at, geometry, IsSoundZone}
use Rattle.zn_truth.specs.Limits.{IsWithinLimits}
use Rattle.zn_truth.specs.Obeying.{Fits, IsZoneToManage}
use Rattle.zn_truth.specs.Orders.{Order, ReadAt, reading, done}
use Rattle.zn_truth.proofs.Issuing.{zones-in_geometry}
use Rattle.zn_truth.proofs.Sound.{done-geometry}
use Rattle.zn_zone.proofs.Within.{is_within}
use Rattle.zn_zone.specs.Facts.{ZoneFacts, Facts, zone_facts, facts_of, facts_at, info_of, bare_zone, bare, refusal_by, after}
use Rattle.zn_zone.specs.Machine.{Machine, state_at, facts_in, facts, geometry_in}
use Rattle.zn_zone.proofs.ByFacts.{map-map, facts_of-bare}
use Rattle.zn_device.specs.declared.store.Store.{Store}
use Rattle.zn_device.specs.Stores.{zone_of, truth_of, HasBuffer, held_before, HasStores, IsSoundDevice}
use Rattle.zn_device.proofs.Stores.{length-zones_of, facts_of-truth_of, zone_at-truth_of, facts_at-facts, zones-facts}

-- ---- the geometry, by the facts

abbrev geometry_by : Facts → Geometry
geometry_by f = record { shape = f.shape; kinds = map (λ zone. zone.kind) f.zones }

kinds-facts : (zones : List Zone) → map (λ (zone : ZoneFacts). zone.kind) (map zone_facts zones) ≡ map (λ (zone : Zone). zone.kind) zones
kinds-facts [] = refl
kinds-facts (zone ∷ zones) = ap (λ kinds. zone.kind ∷ kinds) (kinds-facts zones)

geometry-facts : (t : Truth) → geometry_by (facts_of t) ≡ geometry t
geometry-facts t = ap (λ kinds. let g : Geometry = record { shape = t.shape; kinds = kinds } in g) (kinds-facts t.zones)

geometry-truth_of : (f : Facts) (stores : List Store) → length stores ≡ length f.zones → geometry (truth_of f stores) ≡ geometry_by f
geometry-truth_of f stores count = sym (geometry-facts (truth_of f stores)) ∙ ap geometry_by (facts_of-truth_of f stores count)

geometry-after : (f : Facts) (order : Order) → geometry_by (after f order) ≡ geometry_by f
unfolding after
geometry-after f order = geometry-facts (done (bare f) order).truth ∙ done-geometry (bare f) order ∙ sym (geometry-facts (bare f)) ∙ ap geometry_by (facts_of-bare f)

kind-geometry : (f : Facts) (z : ℕ) → kind_at (geometry_by f) z ≡ (facts_at f z).kind
kind-geometry f z = get_or-map (λ (zone : ZoneFacts). zone.kind) f.zones z (zone_facts no_zone)

-- ---- a place that fits

pub zones_in : (m : Machine) (stores : List Store) → IsSoundDevice (facts m) stores → length (geometry (truth_of (facts m) stores)).kinds ≡ length m.zones
zones_in m stores sound = zones-in_geometry (truth_of (facts m) stores) ∙ length-zones_of (facts m).zones stores sound.stored.count ∙ zones-facts m

zones_at : (m : Machine) (stores : List Store) (z : ℕ) → IsSoundDevice (facts m) stores → z < length (geometry (truth_of (facts m) stores)).kinds → z < length m.zones
zones_at m stores z sound below = omega (arith, zones_in m stores sound)

pub kind_in : (m : Machine) (stores : List Store) (z : ℕ) → IsSoundDevice (facts m) stores → kind_at (geometry (truth_of (facts m) stores)) z ≡ (state_at m z).kind
kind_in m stores z sound =
    ap (λ (g : Geometry). kind_at g z) (geometry-truth_of (facts m) stores sound.stored.count) ∙ kind-geometry (facts m) z ∙ ap (λ (zone : ZoneFacts). zone.kind) (facts_at-facts m z)

small_room : (g : Geometry) (k : Kind) → IsWithinLimits g → room g.shape k ≤ 65536
small_room g Conventional within = omega (arith, within.size)
small_room g Sequential within = omega (arith, within.size, within.fits)

-- what is known of blocks that fit
pub record Place (m : Machine) (stores : List Store) (z at n : ℕ) : Type 0 where
  pub zone : z < length m.zones
  pub store : z < length stores
  pub blocks : at + n ≤ room m.shape (state_at m z).kind
  pub small : at + n ≤ 65536

pub place : (m : Machine) (stores : List Store) (z at n : ℕ) → IsSoundDevice (facts m) stores → Fits (geometry (truth_of (facts m) stores)) z at n → Place m stores z at n
place m stores z at n sound fits =
    let zone : z < length m.zones = zones_at m stores z sound fits.zone in
    let g = geometry (truth_of (facts m) stores) in
    record {
      zone = zone;
      store = omega (arith, sound.stored.count, zones-facts m);
      blocks = subst (λ (k : Kind). at + n ≤ room m.shape k) (kind_in m stores z sound) fits.room;
      small = omega (arith, fits.room, small_room g (kind_at g z) (is_within g sound.within));
    }

-- what is known of a zone that is managed
pub record ManagedPlace (m : Machine) (stores : List Store) (z : ℕ) : Type 0 where
  pub zone : z < length m.zones
  pub store : z < length stores
  pub kind : (state_at m z).kind ≡ Sequential

pub managed_place : (m : Machine) (stores : List Store) (z : ℕ) → IsSoundDevice (facts m) stores → IsZoneToManage (geometry (truth_of (facts m) stores)) z → ManagedPlace m stores z
managed_place m stores z sound fits =
    let zone : z < length m.zones = zones_at m stores z sound fits.zone in
    record {
      zone = zone;
      store = omega (arith, sound.stored.count, zones-facts m);
      kind = sym (kind_in m stores z sound) ∙ fits.kind;
    }

-- ---- the zone and its store

-- the kind that the machine tells is that of the facts
pub kind_found : (m : Machine) (z : ℕ) (kind : Kind) → kind ≡ (state_at m z).kind → kind ≡ (facts_at (facts m) z).kind
kind_found m z kind is = is ∙ ap (λ (zone : ZoneFacts). zone.kind) (sym (facts_at-facts m z))

-- what is known of a zone and its store
pub record Found (shape : Shape) (kind : Kind) (info : ZoneInfo) (store : Store) : Type 0 where
  pub sound : IsSoundZone true shape (zone_of kind info store)
  pub buffer : HasBuffer shape kind store

pub found : (m : Machine) (stores : List Store) (z : ℕ) (kind : Kind) (info : ZoneInfo) (store : Store) → IsSoundDevice (facts m) stores → z < length m.zones → store ≡ get_or stores z store
    → kind ≡ (facts_at (facts m) z).kind → info ≡ info_of (facts_at (facts m) z) → Found m.shape kind info store
found m stores z kind info store sound below is kind_is info_is =
    let there : z < length (facts m).zones = omega (arith, zones-facts m) in
    record {
      sound = subst (IsSoundZone true m.shape)
          (zone_at-truth_of (facts m) stores z store sound.stored.count there is ∙ ap (λ k. zone_of k (info_of (facts_at (facts m) z)) store) (sym kind_is) ∙ ap (λ i. zone_of kind i store) (sym info_is))
          (sound.sound.zones z (omega (arith, length-zones_of (facts m).zones stores sound.stored.count)));
      buffer = subst (λ s. HasBuffer m.shape kind s) (sym is)
          (subst (λ k. HasBuffer m.shape k (get_or stores z store)) (sym kind_is) (sound.stored.buffers z store (omega (arith, sound.stored.count))));
    }

-- what a zone holds that may be written
pub held_found : (shape : Shape) (kind : Kind) (info : ZoneInfo) (store : Store) (at : ℕ) → IsSoundZone true shape (zone_of kind info store) → is_good info.cond ≡ true → (kind ≡ Sequential → info.held ≡ at)
    → info.held ≡ held_before kind shape at
held_found shape Conventional info store at sound good end = grind (arith, nat_tests, sound.conventional)
held_found shape Sequential info store at sound good end = end refl

-- the flags of a conventional zone that may be written
pub flags_found : (shape : Shape) (kind : Kind) (info : ZoneInfo) (store : Store) → IsSoundZone true shape (zone_of kind info store) → is_good info.cond ≡ true → kind ≡ Conventional
    → length store.unflushed.items ≡ shape.zone_blocks
flags_found shape Conventional info store sound good is = grind (arith, nat_tests, sound.conventional, sound.flags)
flags_found shape Sequential info store sound good is = absurd (cc)

-- a conventional zone has no more flags than blocks
pub flags_fit : (shape : Shape) (info : ZoneInfo) (store : Store) → Found shape Conventional info store → 4096 * length store.unflushed.items ≤ length store.buffer.items
flags_fit shape info store known = omega (arith, known.sound.flags, known.sound.bytes)

-- what an accepted read found
reading_none : (cond : Cond) (held end : ℕ) → reading cond (if nat_lt held end then Some BeyondWp else None) ≡ None → end ≤ held
reading_none Good held end h = grind (arith, nat_tests)
reading_none ReadOnly held end h = grind (arith, nat_tests)
reading_none Offline held end h = absurd (cc)

pub read_found : (f : Facts) (z end : ℕ) → refusal_by f (ReadAt z 0 end) ≡ None → end ≤ (facts_at f z).held
unfolding refusal_by
read_found f z end none =
    let same : zone_at (bare f) z ≡ bare_zone (facts_at f z) = get_or-map bare_zone f.zones z (zone_facts no_zone) in
    reading_none (facts_at f z).cond (facts_at f z).held end
    (rw (sym (zero-add end)) (ap (λ (zone : Zone). reading zone.cond (if nat_lt zone.held (0 + end) then Some BeyondWp else None)) (sym same) ∙ none))

-- ---- another store in its place

stores_set : (f g : Facts) (stores : List Store) (z : ℕ) (new : Store) → geometry_by g ≡ geometry_by f → HasStores f stores → HasBuffer f.shape (facts_at f z).kind new → HasStores g (set stores z new)
stores_set f g stores z new same stored buffer = record {
  count = length-set stores z new ∙ stored.count ∙ sym (length-map f.zones (λ (zone : ZoneFacts). zone.kind)) ∙ ap (λ (h : Geometry). length h.kinds) (sym same) ∙ length-map g.zones (λ (zone : ZoneFacts). zone.kind);
  buffers = λ k other below.
      let there : k < length stores = omega (arith, length-set stores z new) in
      let kinds : (facts_at f k).kind ≡ (facts_at g k).kind = sym (kind-geometry f k) ∙ ap (λ (h : Geometry). kind_at h k) (sym same) ∙ kind-geometry g k in
      let held : HasBuffer f.shape (facts_at f k).kind (get_or (set stores z new) k other) = ⊎_elim
      (λ is. subst (λ v. HasBuffer f.shape (facts_at f v).kind (get_or (set stores z new) v other)) (sym is)
      (rw (get_or-set_same stores z new other (omega (arith, is))) buffer))
      (λ apart. rw (get_or-set_other stores z k new other apart) (stored.buffers k other there))
      (cases_eq k z) in
      subst (λ (shape : Shape). HasBuffer shape (facts_at g k).kind (get_or (set stores z new) k other)) (ap (λ (h : Geometry). h.shape) (sym same))
      (subst (λ kind. HasBuffer f.shape kind (get_or (set stores z new) k other)) kinds held);
}

pub stores_after : (f g : Facts) (order : Order) (stores : List Store) (z : ℕ) (kind : Kind) (new : Store) → g ≡ after f order → HasStores f stores → kind ≡ (facts_at f z).kind → HasBuffer f.shape kind new
    → HasStores g (set stores z new)
stores_after f g order stores z kind new is stored kind_is buffer =
    stores_set f g stores z new (ap geometry_by is ∙ geometry-after f order) stored (subst (λ k. HasBuffer f.shape k new) kind_is buffer)

-- after a store that keeps the room of its buffer
pub stores_kept : (f : Facts) (stores : List Store) (z : ℕ) (old new : Store) → HasStores f stores → z < length stores → old ≡ get_or stores z old
    → vec_capacity new.buffer ≡ vec_capacity old.buffer → HasStores f (set stores z new)
stores_kept f stores z old new stored below is same =
    let before : HasBuffer f.shape (facts_at f z).kind old = subst (λ s. HasBuffer f.shape (facts_at f z).kind s) (sym is) (stored.buffers z old below) in
    stores_set f f stores z new refl stored (omega arith)

-- the geometry of the machine is that of its facts
geometry-machine : (m : Machine) → geometry_by (facts m) ≡ geometry_in m
geometry-machine m = ap (λ kinds. let g : Geometry = record { shape = m.shape; kinds = kinds } in g) (map-map (λ (zone : ZoneFacts). zone.kind) facts_in m.zones)

-- after a move of the machine, and a store that keeps the room of its buffer
pub stores_moved : (m n : Machine) (stores : List Store) (z : ℕ) (old new : Store) → geometry_in n ≡ geometry_in m → HasStores (facts m) stores → z < length stores → old ≡ get_or stores z old
    → vec_capacity new.buffer ≡ vec_capacity old.buffer → HasStores (facts n) (set stores z new)
stores_moved m n stores z old new same stored below is kept =
    let before : HasBuffer m.shape (facts_at (facts m) z).kind old = subst (λ s. HasBuffer m.shape (facts_at (facts m) z).kind s) (sym is) (stored.buffers z old below) in
    stores_set (facts m) (facts n) stores z new (geometry-machine n ∙ same ∙ sym (geometry-machine m)) stored (omega arith)
