-- A device with power that may go and faults that wait for a command, and what becomes of an order to it. (own)
use Rattle.std.specs.Prelude.{ℕ, ◌+◌, ◌*◌, ◌/◌, min, Bool, true, false, ◌&&◌, ◌||◌, ◌==◌, nat_lt, nat_le, List, [], length, take, remove, position, slice_get, if◌then◌else◌, Option, Some, None, unwrap_or, Ok, Err}
use Rattle.zn_truth.specs.declared.limits.TheConstants.{BLOCK_SIZE}
use Rattle.zn_truth.specs.declared.ZoneOp.{ZoneOp}
use Rattle.zn_truth.specs.declared.ZoneOp.TheVariants.{Open as do_open, Close as do_close, Reset as do_reset, Finish as do_finish}
use Rattle.zn_truth.specs.declared.DevError.TheVariants.{Fault, PowerLost}
use Rattle.zn_truth.specs.declared.Command.{Command}
use Rattle.zn_truth.specs.declared.Command.TheVariants.{Read, Write, Reset, Finish, Flush, Open, Close, Report}
use Rattle.zn_truth.specs.declared.Span.{Span}
use Rattle.zn_truth.specs.declared.FaultSpec.{FaultSpec}
use Rattle.zn_truth.specs.declared.Armed.{Armed}
use Rattle.zn_truth.specs.Truth.{Truth, Geometry, geometry, zone_at, with_zone, is_good, is_sequential}
use Rattle.zn_truth.specs.Orders.{Order, ReadAt, WriteAt, Manage, FlushAll, ReportFrom, Reply, Done, done}
use Rattle.zn_truth.specs.Power.{settled, clamped, lost, during}

-- A device: what it holds, whether it has power, the faults that wait, oldest first, and the loss that waits.
pub record World : Type 0 where
  pub truth : Truth
  pub powered : Bool
  pub pending : List FaultSpec
  pub armed : Option Armed

-- the reply and the world after it
pub record Outcome : Type 0 where
  pub reply : Reply
  pub world : World

-- what no command changes
unfoldable pub geometry_of : World → Geometry
geometry_of w = geometry w.truth

-- ---- which command a fault or a loss waits for

-- a number for each command, by which they are compared
abbrev pub code_of : Command → ℕ
code_of Read = 0
code_of Write = 1
code_of Reset = 2
code_of Finish = 3
code_of Flush = 4
code_of Open = 5
code_of Close = 6
code_of Report = 7

-- the command that manages a zone in this way
abbrev pub command_of_op : ZoneOp → Command
command_of_op do_open = Open
command_of_op do_close = Close
command_of_op do_reset = Reset
command_of_op do_finish = Finish

-- the command that the order is
abbrev pub command_of : Order → Command
command_of (ReadAt z at n) = Read
command_of (WriteAt z at bytes) = Write
command_of (Manage z op) = command_of_op op
command_of FlushAll = Flush
command_of (ReportFrom first n) = Report

-- whether the zone is among these
abbrev pub has_zone : Span → ℕ → Bool
has_zone zones z = zones.all || (nat_le zones.first z && nat_lt z (zones.first + zones.count))

-- every flush names all zones
abbrev pub zones_of : Order → Span
zones_of (ReadAt z at n) = record { all = false; first = z; count = 1 }
zones_of (WriteAt z at bytes) = record { all = false; first = z; count = 1 }
zones_of (Manage z op) = record { all = false; first = z; count = 1 }
zones_of FlushAll = record { all = true; first = 0; count = 0 }
zones_of (ReportFrom first n) = record { all = false; first = first; count = n }

-- whether a command on these zones is one of this kind on this zone
abbrev pub meets : Command → Span → Command → ℕ → Bool
meets command zones other z = (code_of other == code_of command) && has_zone zones z

-- whether the command, on these zones, is what the fault waits for
abbrev pub meets_fault : Command → Span → FaultSpec → Bool
meets_fault command zones fault = meets command zones fault.command fault.zone.0

-- the fault at this place, if one is given
abbrev pub fault_at : List FaultSpec → Option ℕ → Option FaultSpec
fault_at faults None = None
fault_at faults (Some i) = slice_get faults i

-- the faults but the one at this place, if one is given
abbrev pub without : List FaultSpec → Option ℕ → List FaultSpec
without faults None = faults
without faults (Some i) = remove faults i

-- the first fault that the command meets, and the others
unfoldable pub met : Command → Span → List FaultSpec → Option FaultSpec
met command zones faults = fault_at faults (position (meets_fault command zones) faults)

-- all faults but the first that the command meets
unfoldable pub unmet : Command → Span → List FaultSpec → List FaultSpec
unmet command zones faults = without faults (position (meets_fault command zones) faults)

-- ---- faults

-- a success becomes the fault, and an error stays
abbrev pub as_fault : Reply → Reply
as_fault (Ok unit) = Err Fault
as_fault (Err error) = Err error

-- a partial write answers its refusal, or the fault
abbrev pub broken_off : Done → Done
broken_off d = record d { reply = as_fault d.reply }

-- a flush that a fault meets settles one zone, if it is sequential and good
unfoldable pub settled_by_flush : Truth → ℕ → ℕ → Truth
settled_by_flush t z keep =
    if is_sequential (zone_at t z).kind && is_good (zone_at t z).cond
    then with_zone t z (settled (zone_at t z) (clamped (zone_at t z) keep) (clamped (zone_at t z) keep) None)
    else t

-- What the order does where a fault meets it: the first blocks of a write are written, as many as the fault
-- keeps; nothing else is done, but that a flush may shorten the fault's zone.
unfoldable pub faulted : Truth → Order → FaultSpec → Done
faulted t (WriteAt z at bytes) fault =
    if min (unwrap_or fault.keep 0) (length bytes / BLOCK_SIZE) == 0 then record { reply = Err Fault; truth = t }
    else broken_off (done t (WriteAt z at (take (BLOCK_SIZE * min (unwrap_or fault.keep 0) (length bytes / BLOCK_SIZE)) bytes)))
faulted t FlushAll fault = record { reply = Err Fault; truth = settled_by_flush t fault.zone.0 (unwrap_or fault.keep 0) }
faulted t (ReadAt z at n) fault = record { reply = Err Fault; truth = t }
faulted t (Manage z op) fault = record { reply = Err Fault; truth = t }
faulted t (ReportFrom first n) fault = record { reply = Err Fault; truth = t }

-- ---- an order to the device

-- the armed loss is used up, and the power goes inside the command
abbrev pub powered_off : Truth → List FaultSpec → Armed → Order → Outcome
powered_off t pending armed order = record {
  reply = Err PowerLost;
  world = record { truth = lost (during t order armed.carried_out armed.loss) armed.loss; powered = false; pending = pending; armed = None };
}

-- the outcome, with these faults left
abbrev pub outcome : Done → List FaultSpec → Option Armed → Outcome
outcome d pending armed = record { reply = d.reply; world = record { truth = d.truth; powered = true; pending = pending; armed = armed } }

-- with no loss that waits for this order: the first fault that it meets is used up, or it is done
abbrev pub struck : Truth → List FaultSpec → List FaultSpec → Option Armed → Order → Option FaultSpec → Outcome
struck t pending rest armed order None = outcome (done t order) pending armed
struck t pending rest armed order (Some fault) = outcome (faulted t order fault) rest armed

-- an order that no armed loss strikes, with the faults that wait in this world
abbrev pub unarmed : World → Order → Option Armed → Outcome
unarmed w order armed = struck w.truth w.pending (unmet (command_of order) (zones_of order) w.pending) armed order (met (command_of order) (zones_of order) w.pending)

-- the armed loss strikes an order that it waits for, and any other leaves it armed
abbrev pub issue_armed : World → Order → Option Armed → Outcome
issue_armed w order None = unarmed w order None
issue_armed w order (Some armed) =
    if meets (command_of order) (zones_of order) armed.command armed.zone.0 then powered_off w.truth w.pending armed order
    else unarmed w order (Some armed)

-- What becomes of the order: without power nothing; else the armed loss, the first fault that waits for it,
-- or what a device without faults does.
unfoldable pub issue : World → Order → Outcome
issue w order = if w.powered then issue_armed w order w.armed else record { reply = Err PowerLost; world = w }

-- a world with power, in which nothing waits
abbrev pub calm : Truth → World
calm t = record { truth = t; powered = true; pending = []; armed = None }
