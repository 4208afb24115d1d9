-- What a zoned device holds: per zone its kind, condition, blocks, bytes and what of them is durable.
-- The record of each zone is that of zoned block devices, with what lasts over a loss of power added (own).
use Rattle.std.specs.Prelude.{◌≡◌, ℕ, ◌*◌, ◌<◌, ◌≤◌, Bool, true, false, ◌&&◌, ◌||◌, not, ◌==◌, nat_lt, nat_le, List, [], length, take, drop, map, replicate, count_by, if◌then◌else◌, slice_set, slice_index_or, IsTrue}
use Rattle.zn_truth.specs.declared.limits.TheConstants.{BLOCK_SIZE}
use Rattle.zn_truth.specs.declared.Kind.{Kind}
use Rattle.zn_truth.specs.declared.Kind.TheVariants.{Conventional, Sequential}
use Rattle.zn_truth.specs.declared.Cond.{Cond}
use Rattle.zn_truth.specs.declared.Cond.TheVariants.{Good, ReadOnly, Offline}
use Rattle.zn_truth.specs.declared.Shape.{Shape}
use Rattle.zn_truth.specs.declared.ZoneInfo.{ZoneInfo}

-- ---- geometry

-- what no command changes
pub record Geometry : Type 0 where
  pub shape : Shape
  pub kinds : List Kind

-- the blocks that a zone of this kind has room for
abbrev pub room : Shape → Kind → ℕ
room shape Conventional = shape.zone_blocks
room shape Sequential = shape.zone_capacity

-- the kind of the zone with this number; one that isn't there counts as sequential
abbrev pub kind_at : Geometry → ℕ → Kind
kind_at g z = slice_index_or g.kinds z Sequential

-- whether zones of this kind take a write only where what they hold ends
abbrev pub is_sequential : Kind → Bool
is_sequential Conventional = false
is_sequential Sequential = true

-- ---- truth

-- A zone. `held` is the blocks that it holds, `bytes` are theirs, and are empty where the device does not
-- tell them. `durable` is how many blocks, from the start, a loss of power leaves for sure. `unflushed` has
-- a flag for each block of a conventional zone: whether it was written since it was last made durable.
pub record Zone : Type 0 where
  pub kind : Kind
  pub cond : Cond
  pub held : ℕ
  pub bytes : List ℕ
  pub durable : ℕ
  pub unflushed : List Bool
  pub explicit : Bool

-- A device. `told` says whether the bytes are told.
pub record Truth : Type 0 where
  pub told : Bool
  pub shape : Shape
  pub zones : List Zone

-- a zone that no device has
abbrev pub no_zone : Zone
no_zone = record { kind = Sequential; cond = Offline; held = 0; bytes = []; durable = 0; unflushed = []; explicit = false }

-- the zone with this number, or one that no device has
abbrev pub zone_at : Truth → ℕ → Zone
zone_at t z = slice_index_or t.zones z no_zone

-- the zone with its bytes, where they are told
abbrev pub seen : Bool → Zone → Zone
seen told zone = record zone { bytes = if told then zone.bytes else [] }

-- the truth with this zone in place
abbrev pub with_zone : Truth → ℕ → Zone → Truth
with_zone t z zone = record t { zones = slice_set t.zones z (seen t.told zone) }

-- the shape, and the kind of each zone
abbrev pub geometry : Truth → Geometry
geometry t = record { shape = t.shape; kinds = map (λ zone. zone.kind) t.zones }

-- neither read-only nor offline
abbrev pub is_good : Cond → Bool
is_good Good = true
is_good ReadOnly = false
is_good Offline = false

-- the condition in which a zone can neither be read nor changed
abbrev pub is_offline : Cond → Bool
is_offline Good = false
is_offline ReadOnly = false
is_offline Offline = true

-- what a report tells of a zone
abbrev pub info_at : Truth → ℕ → ZoneInfo
info_at t z = record { cond = (zone_at t z).cond; held = (zone_at t z).held; explicit = (zone_at t z).explicit }

-- the bytes of blocks of a zone, from a block on, where they are told
abbrev pub bytes_at : Truth → ℕ → ℕ → ℕ → List ℕ
bytes_at t z at n = take (BLOCK_SIZE * n) (drop (BLOCK_SIZE * at) (zone_at t z).bytes)

-- ---- counts

-- good, and explicitly open or partly written
abbrev pub is_active : Shape → Zone → Bool
is_active shape zone = is_sequential zone.kind && is_good zone.cond && (zone.explicit || (nat_lt 0 zone.held && nat_lt zone.held shape.zone_capacity))

-- how many zones count toward the limit of active ones
abbrev pub active : Truth → ℕ
active t = count_by (is_active t.shape) t.zones

-- how many zones are explicitly open
abbrev pub explicit : Truth → ℕ
explicit t = count_by (λ zone. zone.explicit) t.zones

-- a limit of 0 is none
abbrev pub is_reached : ℕ → ℕ → Bool
is_reached limit count = not (limit == 0) && nat_le limit count

-- ---- soundness

-- no flag is set
abbrev pub cleared : List Bool → List Bool
cleared flags = replicate (length flags) false

-- What each zone of a truth keeps to.
pub record IsSoundZone (told : Bool) (shape : Shape) (zone : Zone) : Type 0 where
  pub held : zone.held ≤ room shape zone.kind
  pub bytes : length zone.bytes ≡ (if told then BLOCK_SIZE * zone.held else 0)
  pub durable : zone.durable ≤ zone.held
  -- a full sequential zone is durable as a whole
  pub full : IsTrue (is_sequential zone.kind) → zone.held ≡ shape.zone_capacity → zone.durable ≡ zone.held
  pub offline : IsTrue (is_offline zone.cond) → zone.held ≡ 0
  -- a zone that isn't good any more is durable as a whole
  pub settled : ¬ IsTrue (is_good zone.cond) → zone.durable ≡ zone.held
  pub flushed : ¬ IsTrue (is_good zone.cond) → zone.unflushed ≡ cleared zone.unflushed
  -- a conventional zone holds its size, and its blocks are durable one by one, by their flags
  pub conventional : ¬ IsTrue (is_sequential zone.kind) → ¬ IsTrue (is_offline zone.cond) → zone.held ≡ shape.zone_blocks
  pub whole : ¬ IsTrue (is_sequential zone.kind) → zone.durable ≡ zone.held
  pub flags : length zone.unflushed ≡ (if is_sequential zone.kind then 0 else zone.held)
  -- only a good sequential zone that isn't full is explicitly open
  pub explicit : IsTrue zone.explicit → IsTrue (is_sequential zone.kind && is_good zone.cond && nat_lt zone.held shape.zone_capacity)

-- each zone is sound, and no more are active or explicitly open than the limits allow
pub record IsSound (t : Truth) : Type 0 where
  pub zones : (z : ℕ) → z < length t.zones → IsSoundZone t.told t.shape (zone_at t z)
  pub active : 0 < t.shape.max_active → active t ≤ t.shape.max_active
  pub explicit : 0 < t.shape.max_open → explicit t ≤ t.shape.max_open
