-- What a loss of power may leave of a truth, at rest or while a command is carried out. (own)
use Rattle.std.specs.Prelude.{◌≡◌, ◌⊎◌, ℕ, ◌*◌, ◌<◌, ◌≤◌, Bool, false, List, [], ◌∷◌, length, take, drop, Option, Some, None, slice_index_or, if◌then◌else◌}
use Rattle.zn_truth.specs.declared.limits.TheConstants.{BLOCK_SIZE}
use Rattle.zn_truth.specs.declared.Kind.{Kind}
use Rattle.zn_truth.specs.declared.Kind.TheVariants.{Conventional, Sequential}
use Rattle.zn_truth.specs.declared.Cond.{Cond}
use Rattle.zn_truth.specs.declared.Cond.TheVariants.{Good, ReadOnly, Offline}
use Rattle.zn_truth.specs.declared.DevError.{DevError}
use Rattle.zn_truth.specs.declared.ZoneOp.TheVariants.{Open, Close, Reset, Finish}
use Rattle.zn_truth.specs.Truth.{Zone, Truth, zone_at, with_zone, cleared}
use Rattle.zn_truth.specs.Orders.{Order, ReadAt, WriteAt, Manage, FlushAll, ReportFrom, refusal, effect, placed}

-- A sequential zone keeps its durable blocks and any number of those behind them, these with any bytes.
pub record KeepsDurable (old new : Zone) : Type 0 where
  pub no_less : old.durable ≤ new.held
  pub no_more : new.held ≤ old.held
  pub front : take (BLOCK_SIZE * old.durable) new.bytes ≡ take (BLOCK_SIZE * old.durable) old.bytes

-- A conventional zone keeps its length and each block that isn't unflushed.
pub record KeepsFlushed (old new : Zone) : Type 0 where
  pub held : new.held ≡ old.held
  pub blocks : (k : ℕ) → k < old.held → slice_index_or old.unflushed k false ≡ false → take BLOCK_SIZE (drop (BLOCK_SIZE * k) new.bytes) ≡ take BLOCK_SIZE (drop (BLOCK_SIZE * k) old.bytes)

-- by its kind, a zone keeps each flushed block, or its durable ones
abbrev pub Keeps : Kind → Zone → Zone → Type 0
Keeps Conventional old new = KeepsFlushed old new
Keeps Sequential old new = KeepsDurable old new

-- A zone after the power went: all that it holds is durable, and it isn't explicitly open. Where bytes
-- aren't told there are none.
pub record IsZoneLoss (told : Bool) (old new : Zone) : Type 0 where
  pub kind : new.kind ≡ old.kind
  pub cond : new.cond ≡ old.cond
  pub keeps : Keeps old.kind old new
  pub whole : length new.bytes ≡ (if told then BLOCK_SIZE * new.held else 0)
  pub durable : new.durable ≡ new.held
  pub flushed : new.unflushed ≡ cleared old.unflushed
  pub closed : new.explicit ≡ false

-- a truth after the power went
pub record IsLossOf (old new : Truth) : Type 0 where
  pub told : new.told ≡ old.told
  pub shape : new.shape ≡ old.shape
  pub count : length new.zones ≡ length old.zones
  pub zones : (z : ℕ) → z < length old.zones → IsZoneLoss old.told (zone_at old z) (zone_at new z)

-- The truths that an order passes through, any of which a loss may strike: a write has its bytes in place
-- but not yet made durable by being full; a reset or finish is done or not done.
abbrev pub stages : Truth → Order → List Truth
stages t (WriteAt z at bytes) = with_zone t z (placed (zone_at t z).kind (zone_at t z) at bytes) ∷ []
stages t (Manage z Reset) = t ∷ effect t (Manage z Reset) ∷ []
stages t (Manage z Finish) = t ∷ effect t (Manage z Finish) ∷ []
stages t (Manage z Open) = t ∷ []
stages t (Manage z Close) = t ∷ []
stages t (ReadAt z at n) = t ∷ []
stages t FlushAll = t ∷ []
stages t (ReportFrom first n) = t ∷ []

-- an order that is refused passes through nothing else
abbrev pub stages_unless : Option DevError → Truth → Order → List Truth
stages_unless None t order = stages t order
stages_unless (Some error) t order = t ∷ []

-- a loss of one of these truths
abbrev pub IsLossOfOne : List Truth → Truth → Type 0
IsLossOfOne [] new = ⊥
IsLossOfOne (t ∷ []) new = IsLossOf t new
IsLossOfOne (t ∷ u ∷ ts) new = IsLossOf t new ⊎ IsLossOfOne (u ∷ ts) new

-- a truth after the power went while the order was carried out
abbrev pub IsLossInside : Truth → Order → Truth → Type 0
IsLossInside t order new = IsLossOfOne (stages_unless (refusal t order) t order) new

-- ---- a turn of condition

-- the condition leaves the zone what it holds, or nothing
abbrev pub turned_by : Cond → Zone → Zone
turned_by Good zone = record zone { durable = zone.held; unflushed = cleared zone.unflushed; cond = Good; explicit = false }
turned_by ReadOnly zone = record zone { durable = zone.held; unflushed = cleared zone.unflushed; cond = ReadOnly; explicit = false }
turned_by Offline zone = record zone { held = 0; bytes = []; durable = 0; unflushed = []; cond = Offline; explicit = false }

-- The zone turns to this condition: its bytes are durable and it is closed, or, offline, it holds none.
unfoldable pub turned : Truth → ℕ → Cond → Truth
turned t z to = with_zone t z (turned_by to (zone_at t z))
