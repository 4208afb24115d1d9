-- Laws of what follows a failed command, for every device and every world, and of handles on one file. (own)
use Rattle.std.specs.Prelude.{◌≡◌, ◌≢◌, ℕ, ◌*◌, ◌/◌, ◌<◌, min, Bool, true, false, ◌&&◌, List, [], length, take, if◌then◌else◌, Some, None, unwrap_or, Ok, Err}
use Rattle.zn_truth.specs.declared.limits.TheConstants.{BLOCK_SIZE}
use Rattle.zn_truth.specs.declared.DevError.{DevError}
use Rattle.zn_truth.specs.declared.DevError.TheVariants.{PowerLost}
use Rattle.zn_truth.specs.declared.FaultSpec.{FaultSpec}
use Rattle.zn_truth.specs.declared.ZoneOp.{ZoneOp}
use Rattle.zn_truth.specs.Truth.{Zone, Truth, zone_at, is_good, is_sequential}
use Rattle.zn_truth.specs.Orders.{Order, ReadAt, WriteAt, Manage, FlushAll, ReportFrom, refusal, done}
use Rattle.zn_truth.specs.Power.{clamped}
use Rattle.zn_truth.specs.World.{World, issue, met, command_of, zones_of}
use Rattle.zn_device.specs.Causes.{is_refused}
use Rattle.zn_model.specs.declared.handles.Handle.{Handle}
use Rattle.zn_model.specs.Volume.{Mounted, Live, live_at}
use Rattle.zn_model.specs.Reading.{read_call, size_call}
use Rattle.zn_model.specs.Writing.{write_call}
use Rattle.zn_model.specs.Truncating.{truncate_call, sync_call}
use Rattle.zn_model.specs.Requests.{submit_call}
use Rattle.zn_model.specs.Recovery.{is_passed_on, refusal_of, recovered, after_failure}
use Rattle.zn_model.specs.RecoveryLaws.{reported, truly_found, IsRecovered}

-- ---- handles of one file

-- two live handles that are open on the same file, in the same mode
pub record AreAlike (m : Mounted) (a b : Handle) : Type 0 where
  pub first : Live
  pub second : Live
  pub has_first : live_at m.volume.handles a ≡ Some first
  pub has_second : live_at m.volume.handles b ≡ Some second
  pub file : first.file ≡ second.file
  pub mode : first.mode ≡ second.mode

-- Through such handles a call has the same reply, and leaves the same, but that a request keeps the handle that it was
-- submitted through. So after a recovery each handle of a file sees the same row of the table of policies.
pub record HandlesAlike : Type 0 where
  pub size : (m : Mounted) (a b : Handle) → AreAlike m a b → size_call m a ≡ size_call m b
  pub read : (given : List ℕ) (m : Mounted) (a b : Handle) (offset len : ℕ) → AreAlike m a b → read_call given m a offset len ≡ read_call given m b offset len
  pub write : (m : Mounted) (a b : Handle) (offset : ℕ) (bytes : List ℕ) → AreAlike m a b → write_call m a offset bytes ≡ write_call m b offset bytes
  pub truncate : (m : Mounted) (a b : Handle) (size : ℕ) → AreAlike m a b → truncate_call m a size ≡ truncate_call m b size
  pub sync : (m : Mounted) (a b : Handle) → AreAlike m a b → sync_call m a ≡ sync_call m b
  pub submit : (m : Mounted) (a b : Handle) (offset : ℕ) (bytes : List ℕ) → AreAlike m a b → (submit_call m a offset bytes).reply ≡ (submit_call m b offset bytes).reply

-- ---- recovery in every world

-- Where the report that follows a failed command is answered, the file is set to the policy's row of what its zones
-- are in truth, and its requests end. Other files, the handles, the super block and the options of the mount stay, and
-- the device is as the report left it. So it is whatever failed, if it isn't passed on, and that failure is told.
pub record RecoveryOfAnswered : Type 0 where
  pub recovers : (m : Mounted) (f : ℕ) → (reported m f).reply ≡ Ok tt → IsRecovered (truly_found m f) m (recovered false m f) f
  pub follows : (m : Mounted) (f : ℕ) (error : DevError) → (reported m f).reply ≡ Ok tt → is_passed_on error ≡ false
      → IsRecovered (truly_found m f) m (after_failure false error m f).mounted f
  pub told : (m : Mounted) (f : ℕ) (error : DevError) → (reported m f).reply ≡ Ok tt → is_passed_on error ≡ false
      → (after_failure false error m f).refusal ≡ refusal_of error

-- a report leaves what the device holds, unless it is told that the power is lost
abbrev pub ReportLeaves : Type 0
ReportLeaves = (w : World) (first n : ℕ) → (issue w (ReportFrom first n)).reply ≢ Err PowerLost → (issue w (ReportFrom first n)).world.truth ≡ w.truth

-- ---- what a fault leaves

-- what the device holds after an order
abbrev pub left_by : World → Order → Truth
left_by w order = (issue w order).world.truth

-- the power is on, no loss waits, and this is the first fault that the order meets
pub record IsStruck (w : World) (order : Order) (fault : FaultSpec) : Type 0 where
  pub powered : w.powered ≡ true
  pub no_loss : w.armed ≡ None
  pub first : met (command_of order) (zones_of order) w.pending ≡ Some fault

-- as many blocks of a write as the fault keeps, all of them at most, and none where it says no number
abbrev pub kept_by : FaultSpec → List ℕ → ℕ
kept_by fault bytes = min (unwrap_or fault.keep 0) (length bytes / BLOCK_SIZE)

-- the first blocks of the bytes of a write, as many as the fault keeps
abbrev pub kept_bytes : FaultSpec → List ℕ → List ℕ
kept_bytes fault bytes = take (BLOCK_SIZE * kept_by fault bytes) bytes

-- a zone that a flush can settle: sequential and good
abbrev pub is_settleable : Zone → Bool
is_settleable zone = is_sequential zone.kind && is_good zone.cond

-- The zone holds so many blocks, which are all durable; the bytes behind them are gone, and the rest of it stays.
abbrev pub cut_to : Bool → Zone → ℕ → Zone
cut_to told zone len = record zone { held = len; bytes = if told then take (BLOCK_SIZE * len) zone.bytes else []; durable = len }

-- the blocks that a fault in a flush leaves of a zone: as many as it keeps, but all that are durable, and no more than
-- the zone holds
abbrev pub flushed_to : FaultSpec → Zone → ℕ
flushed_to fault zone = clamped zone (unwrap_or fault.keep 0)

-- What the device holds after a command that a fault met. A read, a zone command and a report leave all as it was. A
-- write leaves what a write of the blocks that the fault keeps leaves on a device without faults, and all as it was
-- where it keeps none. A flush leaves every zone but the fault's; that one is cut, where it is sequential and good.
pub record FaultLeaves : Type 0 where
  pub read : (w : World) (z at n : ℕ) (fault : FaultSpec) → IsStruck w (ReadAt z at n) fault → left_by w (ReadAt z at n) ≡ w.truth
  pub manage : (w : World) (z : ℕ) (op : ZoneOp) (fault : FaultSpec) → IsStruck w (Manage z op) fault → left_by w (Manage z op) ≡ w.truth
  pub report : (w : World) (first n : ℕ) (fault : FaultSpec) → IsStruck w (ReportFrom first n) fault → left_by w (ReportFrom first n) ≡ w.truth
  pub write_none : (w : World) (z at : ℕ) (bytes : List ℕ) (fault : FaultSpec) → IsStruck w (WriteAt z at bytes) fault → kept_by fault bytes ≡ 0
      → left_by w (WriteAt z at bytes) ≡ w.truth
  pub write_some : (w : World) (z at : ℕ) (bytes : List ℕ) (fault : FaultSpec) → IsStruck w (WriteAt z at bytes) fault → 0 < kept_by fault bytes
      → left_by w (WriteAt z at bytes) ≡ (done w.truth (WriteAt z at (kept_bytes fault bytes))).truth
  pub flush_others : (w : World) (fault : FaultSpec) → IsStruck w FlushAll fault → (z : ℕ) → z ≢ fault.zone.0 → zone_at (left_by w FlushAll) z ≡ zone_at w.truth z
  pub flush_cut : (w : World) (fault : FaultSpec) → IsStruck w FlushAll fault → is_settleable (zone_at w.truth fault.zone.0) ≡ true
      → zone_at (left_by w FlushAll) fault.zone.0 ≡ cut_to w.truth.told (zone_at w.truth fault.zone.0) (flushed_to fault (zone_at w.truth fault.zone.0))
  pub flush_uncut : (w : World) (fault : FaultSpec) → IsStruck w FlushAll fault → is_settleable (zone_at w.truth fault.zone.0) ≡ false
      → left_by w FlushAll ≡ w.truth

-- ---- what a refusal leaves

-- A command that the device refuses leaves what it holds: by what it answers in any world, and by the first refusal
-- that fits where no loss waits, even if a fault meets the command.
pub record RefusalLeaves : Type 0 where
  pub answered : (w : World) (order : Order) → is_refused (issue w order).reply ≡ true → left_by w order ≡ w.truth
  pub fitting : (w : World) (order : Order) (error : DevError) → w.armed ≡ None → refusal w.truth order ≡ Some error → left_by w order ≡ w.truth
