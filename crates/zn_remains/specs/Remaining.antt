-- What a sequential zone keeps: at an event at which the power goes, and at any other. (own)
use Rattle.std.specs.Prelude.{◌≡◌, ◌⊎◌, ℕ, ◌+◌, ◌*◌, ◌/◌, ◌<◌, ◌≤◌, Bool, true, false, not, ◌==◌, length, take, if◌then◌else◌, Ok}
use Rattle.zn_truth.specs.declared.limits.TheConstants.{BLOCK_SIZE}
use Rattle.zn_truth.specs.declared.Kind.TheVariants.{Sequential}
use Rattle.zn_truth.specs.declared.Cond.TheVariants.{Offline}
use Rattle.zn_truth.specs.declared.Shape.{Shape}
use Rattle.zn_truth.specs.declared.ZoneOp.TheVariants.{Reset, Finish}
use Rattle.zn_truth.specs.Truth.{Zone, Truth, zone_at, IsSound}
use Rattle.zn_truth.specs.Orders.{WriteAt, Manage, FlushAll}
use Rattle.zn_truth.specs.World.{World, issue, geometry_of}
use Rattle.zn_remains.specs.Events.{Event, Ordered, Turned, PowerBack, after_event, FitsIn, PowerGoes}

-- a sequential zone of the device
pub record IsSequentialZone (t : Truth) (z : ℕ) : Type 0 where
  pub below : z < length t.zones
  pub kind : (zone_at t z).kind ≡ Sequential

-- The durable blocks of a zone are there later with the same bytes, and are still durable.
pub record StaysDurable (old new : Zone) : Type 0 where
  pub blocks : old.durable ≤ new.durable
  pub bytes : take (BLOCK_SIZE * old.durable) new.bytes ≡ take (BLOCK_SIZE * old.durable) old.bytes

-- ---- at a loss of power

-- whether the event is an order to empty this zone
abbrev pub empties : ℕ → Event → Bool
empties z (Ordered (Manage y Reset)) = y == z
empties z event = false

-- The blocks that a zone holds where the event is carried out as a whole: a write to it adds its own behind those that
-- were held, and a finish of it fills it.
abbrev pub issued_end : Shape → ℕ → Event → Zone → ℕ
issued_end shape z (Ordered (WriteAt y at bytes)) zone = if y == z then zone.held + length bytes / BLOCK_SIZE else zone.held
issued_end shape z (Ordered (Manage y Finish)) zone = if y == z then shape.zone_capacity else zone.held
issued_end shape z event zone = zone.held

-- What a sequential zone holds after the power went at an event.
pub record Remains (told : Bool) (shape : Shape) (z : ℕ) (event : Event) (old new : Zone) : Type 0 where
  -- all that was durable, with the same bytes; or nothing, where the event is an order to empty the zone
  pub durable : StaysDurable old new ⊎ ((empties z event ≡ true) × (new.held ≡ 0))
  -- no more than up to the end of the last issued append
  pub most : new.held ≤ issued_end shape z event old
  -- whole blocks, where bytes are told
  pub blocks : length new.bytes ≡ (if told then BLOCK_SIZE * new.held else 0)
  -- all that it holds is durable
  pub whole : new.durable ≡ new.held
  -- its condition is as it was
  pub condition : new.cond ≡ old.cond
  -- it isn't explicitly open
  pub closed : new.explicit ≡ false

-- each sequential zone of a device, at an event that made of it another
abbrev pub AllRemain : Truth → Event → Truth → Type 0
AllRemain old event new = (z : ℕ) → IsSequentialZone old z → Remains old.told old.shape z event (zone_at old z) (zone_at new z)

-- Where the power goes at an event each sequential zone keeps what was durable, and ends no later than its last issued
-- append.
abbrev pub LossKeeps : Type 0
LossKeeps = (w : World) (event : Event) → IsSound w.truth → FitsIn (geometry_of w) event → PowerGoes w event → AllRemain w.truth event (after_event w event).truth

-- ---- at any event

-- the event neither empties this zone nor turns it offline
abbrev pub spares : ℕ → Event → Bool
spares z (Ordered (Manage y Reset)) = not (y == z)
spares z (Turned y Offline) = not (y == z)
spares z event = true

-- What is durable in a sequential zone stays so at every event that neither empties the zone nor turns it offline: with
-- power or without, done, refused, met by a fault, or struck by a loss.
abbrev pub DurableStays : Type 0
DurableStays = (w : World) (event : Event) (z : ℕ) → IsSound w.truth → FitsIn (geometry_of w) event → IsSequentialZone w.truth z → spares z event ≡ true
    → StaysDurable (zone_at w.truth z) (zone_at (after_event w event).truth z)

-- every zone is durable as a whole
pub record IsAllDurable (t : Truth) : Type 0 where
  pub zones : (z : ℕ) → z < length t.zones → (zone_at t z).durable ≡ (zone_at t z).held

-- A flush that is answered without an error makes every zone durable as a whole.
abbrev pub FlushMakesDurable : Type 0
FlushMakesDurable = (w : World) → (issue w FlushAll).reply ≡ Ok tt → IsAllDurable (issue w FlushAll).world.truth

-- ---- while the power is off

-- no event but the power coming back
abbrev pub is_dark : Event → Bool
is_dark PowerBack = false
is_dark event = true

-- Without power no event changes what the device holds, the power coming back among them; and nothing but that brings
-- it back.
pub record DarkStays : Type 0 where
  pub truth : (w : World) (event : Event) → w.powered ≡ false → (after_event w event).truth ≡ w.truth
  pub off : (w : World) (event : Event) → w.powered ≡ false → is_dark event ≡ true → (after_event w event).powered ≡ false
  pub back : (w : World) → (after_event w PowerBack).powered ≡ true
