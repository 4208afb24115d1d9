-- What a device in memory holds, by the facts of its condition machine and what it stores of each zone. (own)
use Rattle.std.specs.Prelude.{◌≡◌, ℕ, ◌*◌, ◌<◌, ◌≤◌, true, List, [], ◌∷◌, length, slice_index_or, vec_capacity}
use Rattle.zn_truth.specs.declared.limits.TheConstants.{BLOCK_SIZE}
use Rattle.zn_truth.specs.declared.Kind.{Kind}
use Rattle.zn_truth.specs.declared.Kind.TheVariants.{Conventional, Sequential}
use Rattle.zn_truth.specs.declared.Shape.{Shape}
use Rattle.zn_truth.specs.declared.ZoneInfo.{ZoneInfo}
use Rattle.zn_truth.specs.Truth.{Zone, Truth, room, geometry, IsSound}
use Rattle.zn_truth.specs.Limits.{IsWithinLimits}
use Rattle.zn_zone.specs.Facts.{ZoneFacts, Facts, facts_at, info_of}
use Rattle.zn_device.specs.declared.store.Store.{Store}
use Rattle.zn_truth.specs.Fresh.{fresh_zone}

-- the zone of this kind, of which a report and a store tell
abbrev pub zone_of : Kind → ZoneInfo → Store → Zone
zone_of kind info store = record {
  kind = kind;
  cond = info.cond;
  held = info.held;
  bytes = store.buffer.items;
  durable = store.durable;
  unflushed = store.unflushed.items;
  explicit = info.explicit;
}

-- what a report tells of the zone
abbrev pub info_in : Zone → ZoneInfo
info_in zone = record { cond = zone.cond; held = zone.held; explicit = zone.explicit }

-- the store keeps all that a report leaves out of the zone
abbrev pub Keeps : Store → Zone → Type 0
Keeps store zone = zone_of zone.kind (info_in zone) store ≡ zone

-- what a zone of this kind holds where it is written from this block on
abbrev pub held_before : Kind → Shape → ℕ → ℕ
held_before Conventional shape at = shape.zone_blocks
held_before Sequential shape at = at

-- the zones with these facts, each with its store
abbrev pub zones_of : List ZoneFacts → List Store → List Zone
zones_of [] stores = []
zones_of (zone ∷ zones) [] = []
zones_of (zone ∷ zones) (store ∷ stores) = zone_of zone.kind (info_of zone) store ∷ zones_of zones stores

-- the truth with these facts and stores
abbrev pub truth_of : Facts → List Store → Truth
truth_of f stores = record { told = true; shape = f.shape; zones = zones_of f.zones stores }

-- the store has a buffer for all that a zone of this kind has room for, whatever the zone holds
abbrev pub HasBuffer : Shape → Kind → Store → Type 0
HasBuffer shape kind store = BLOCK_SIZE * room shape kind ≤ vec_capacity store.buffer

-- each zone has a store, and each store its buffer
pub record HasStores (f : Facts) (stores : List Store) : Type 0 where
  pub count : length stores ≡ length f.zones
  pub buffers : (z : ℕ) (other : Store) → z < length stores → HasBuffer f.shape (facts_at f z).kind (slice_index_or stores z other)

-- each zone has a store, and each store keeps what it would if nothing was written
pub record AreFresh (shape : Shape) (kinds : List Kind) (stores : List Store) : Type 0 where
  pub count : length stores ≡ length kinds
  pub kept : (z : ℕ) (other : Store) → z < length stores → Keeps (slice_index_or stores z other) (fresh_zone shape (slice_index_or kinds z Sequential))
  pub buffers : (z : ℕ) (other : Store) → z < length stores → HasBuffer shape (slice_index_or kinds z Sequential) (slice_index_or stores z other)

-- What every device in memory keeps to.
pub record IsSoundDevice (f : Facts) (stores : List Store) : Type 0 where
  pub stored : HasStores f stores
  pub sound : IsSound (truth_of f stores)
  pub within : ∥ IsWithinLimits (geometry (truth_of f stores)) ∥₁
