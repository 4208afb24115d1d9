-- The commands of a zoned device: what refuses each, and what it does to a device with power and no faults.
-- Refusals and effects are those of zoned block devices; their order, the limits' rules and what becomes
-- durable are own.
use Rattle.std.specs.Prelude.{ℕ, ◌+◌, ◌-◌, ◌*◌, ◌/◌, true, false, ◌&&◌, ◌||◌, not, ◌==◌, nat_lt, List, [], ◌++◌, length, take, drop, replicate, map, if◌then◌else◌, Option, Some, None, Result, Ok, Err}
use Rattle.zn_truth.specs.declared.limits.TheConstants.{BLOCK_SIZE}
use Rattle.zn_truth.specs.declared.Kind.{Kind}
use Rattle.zn_truth.specs.declared.Kind.TheVariants.{Conventional, Sequential}
use Rattle.zn_truth.specs.declared.Cond.{Cond}
use Rattle.zn_truth.specs.declared.Cond.TheVariants.{Good, ReadOnly, Offline}
use Rattle.zn_truth.specs.declared.Shape.{Shape}
use Rattle.zn_truth.specs.declared.ZoneOp.{ZoneOp}
use Rattle.zn_truth.specs.declared.ZoneOp.TheVariants.{Open, Close, Reset, Finish}
use Rattle.zn_truth.specs.declared.DevError.{DevError}
use Rattle.zn_truth.specs.declared.DevError.TheVariants.{ReadOnly as read_only, Offline as offline, Unaligned, TooManyActive, TooManyOpen, BeyondWp}
use Rattle.zn_truth.specs.Truth.{Zone, Truth, zone_at, with_zone, active, explicit, is_reached, cleared}

-- An order to the device: read so many blocks of a zone from a block on; write bytes, in whole blocks, to a
-- zone from a block on; manage a zone; flush; report so many zones from one on.
pub data Order : Type 0 where
  ReadAt : ℕ → ℕ → ℕ → Order
  WriteAt : ℕ → ℕ → List ℕ → Order
  Manage : ℕ → ZoneOp → Order
  FlushAll : Order
  ReportFrom : ℕ → ℕ → Order

-- the condition's refusal of what only reads, or the next
abbrev pub reading : Cond → Option DevError → Option DevError
reading Good next = next
reading ReadOnly next = next
reading Offline next = Some offline

-- the condition's refusal of what changes the zone, or the next
abbrev pub changing : Cond → Option DevError → Option DevError
changing Good next = next
changing ReadOnly next = Some read_only
changing Offline next = Some offline

-- what a limit refuses of a command that opens the zone
abbrev pub opening : Truth → Zone → Option DevError
opening t zone =
    if zone.explicit then None
    else if (zone.held == 0) && is_reached t.shape.max_active (active t) then Some TooManyActive
    else if not (zone.held == t.shape.zone_capacity) && is_reached t.shape.max_open (explicit t) then Some TooManyOpen
    else None

-- what refuses a write at this block of a zone that may be written
abbrev pub writing : Kind → Truth → Zone → ℕ → Option DevError
writing Conventional t zone at = None
writing Sequential t zone at = if zone.held == at then opening t zone else Some Unaligned

-- what refuses a command that manages a good zone: an open may meet a limit, the others meet nothing
abbrev pub managing : ZoneOp → Truth → Zone → Option DevError
managing Open t zone = opening t zone
managing Close t zone = None
managing Reset t zone = None
managing Finish t zone = None

-- the first refusal that fits
abbrev pub refusal : Truth → Order → Option DevError
refusal t (ReadAt z at n) = reading (zone_at t z).cond (if nat_lt (zone_at t z).held (at + n) then Some BeyondWp else None)
refusal t (WriteAt z at bytes) = changing (zone_at t z).cond (writing (zone_at t z).kind t (zone_at t z) at)
refusal t (Manage z op) = changing (zone_at t z).cond (managing op t (zone_at t z))
refusal t FlushAll = None
refusal t (ReportFrom first n) = None

-- the bytes with these in place of some
abbrev pub replaced : List ℕ → ℕ → List ℕ → List ℕ
replaced old at new = take at old ++ new ++ drop (at + length new) old

-- A write in its first stage: the bytes are put in place, and none of them is durable.
abbrev pub placed : Kind → Zone → ℕ → List ℕ → Zone
placed Conventional zone at new = record zone {
  bytes = replaced zone.bytes (BLOCK_SIZE * at) new;
  unflushed = take at zone.unflushed ++ replicate (length new / BLOCK_SIZE) true ++ drop (at + length new / BLOCK_SIZE) zone.unflushed;
}
placed Sequential zone at new = record zone { held = zone.held + length new / BLOCK_SIZE; bytes = zone.bytes ++ new }

-- A write in its second stage: a sequential zone that is full is durable and not explicitly open.
abbrev pub filled : Kind → Shape → Zone → Zone
filled Conventional shape zone = zone
filled Sequential shape zone = record zone {
  durable = if zone.held == shape.zone_capacity then zone.held else zone.durable;
  explicit = zone.explicit && not (zone.held == shape.zone_capacity);
}

-- the zone after a write
abbrev pub written : Kind → Shape → Zone → ℕ → List ℕ → Zone
written kind shape zone at new = filled kind shape (placed kind zone at new)

-- the zone after a command that manages it; the bytes that a finish adds are zero
abbrev pub managed : ZoneOp → Shape → Zone → Zone
managed Open shape zone = record zone { explicit = zone.explicit || not (zone.held == shape.zone_capacity) }
managed Close shape zone = record zone { explicit = false }
managed Reset shape zone = record zone { held = 0; bytes = []; durable = 0; explicit = false }
managed Finish shape zone = record zone {
  held = shape.zone_capacity;
  bytes = zone.bytes ++ replicate (BLOCK_SIZE * (shape.zone_capacity - zone.held)) 0;
  durable = shape.zone_capacity;
  explicit = false;
}

-- the zone with all of it durable
abbrev pub flushed : Zone → Zone
flushed zone = record zone { durable = zone.held; unflushed = cleared zone.unflushed }

-- what the order does, where it is not refused
abbrev pub effect : Truth → Order → Truth
effect t (ReadAt z at n) = t
effect t (WriteAt z at bytes) = with_zone t z (written (zone_at t z).kind t.shape (zone_at t z) at bytes)
effect t (Manage z op) = with_zone t z (managed op t.shape (zone_at t z))
effect t FlushAll = record t { zones = map flushed t.zones }
effect t (ReportFrom first n) = t

-- what the device answers: success without a value, or an error
abbrev pub Reply : Type 0
Reply = Result (Unit {0}) DevError

-- the reply and the truth after it
pub record Done : Type 0 where
  pub reply : Reply
  pub truth : Truth

-- an order that is refused changes nothing, and any other has its effect
abbrev pub done_unless : Option DevError → Truth → Order → Done
done_unless (Some error) t order = record { reply = Err error; truth = t }
done_unless None t order = record { reply = Ok tt; truth = effect t order }

-- what the order does to a device with power and no faults
unfoldable pub done : Truth → Order → Done
done t order = done_unless (refusal t order) t order
