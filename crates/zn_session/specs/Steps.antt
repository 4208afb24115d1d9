-- What a line does. (own)
use Rattle.std.specs.Prelude.{◌≡◌, ◌≤◌, ◌⊎◌, ◌+◌, not, ℕ, Bool, true, false, List, Option, Result, Ok, Err, IsErrOf}
use Rattle.zn_base.specs.Causes.{Rose}
use Rattle.zn_base.specs.States.{SinkState}
use Rattle.zn_truth.specs.declared.InjectError.{InjectError}
use Rattle.zn_truth.specs.declared.InjectError.TheVariants.{Broken as inject_broken, Memory as inject_starved}
use Rattle.zn_truth.specs.Inject.{InjectReply, Injected}
use Rattle.zn_truth.specs.World.{geometry_of}
use Rattle.zn_device.specs.Harms.{Injecting}
use Rattle.zn_device.specs.States.{DeviceState}
use Rattle.zn_model.specs.declared.answers.FormatError.{FormatError}
use Rattle.zn_model.specs.declared.answers.FormatError.TheVariants.{Broken as format_broken, Memory as format_starved}
use Rattle.zn_model.specs.declared.answers.MountError.{MountError}
use Rattle.zn_model.specs.declared.answers.MountError.TheVariants.{Broken as mount_broken, Memory as mount_starved}
use Rattle.zn_model.specs.declared.answers.Refusal.{Refusal}
use Rattle.zn_model.specs.declared.answers.Refusal.TheVariants.{Broken as HasBroken, Memory as Starved}
use Rattle.zn_model.specs.declared.handles.Handle.{Handle}
use Rattle.zn_lines.specs.Lines.{Line}
use Rattle.zn_lines.specs.Memory.{takes_itself}
use Rattle.zn_lines.specs.ReplyTexts.{refusal_name, reply_text}
use Rattle.zn_lines.specs.Session.{Stepped, line_now, line_step, dropped_unless, says, is_busy}
use Rattle.zn_lines.specs.Table.{Table}
use Rattle.zn_run.specs.States.{HasRisen, Added, CutOff}
use Rattle.zn_run.specs.Steps.{MayStarve}
use Rattle.zn_run.specs.declared.machine.Step.{Step}
use Rattle.zn_run.specs.declared.machine.Step.TheVariants.{Done as done_step, BadLine, Broken, SinkFault, Memory}
use Rattle.zn_script.specs.declared.Line.{Line as ScriptLine}
use Rattle.zn_script.specs.declared.Line.TheVariants.{Mkfs, Mount, Umount, Zones, Fault, Turn, PowerLoss, PowerLossIn, PowerOn}
use Rattle.zn_volume.specs.Causes.{CallCause}
use Rattle.zn_volume.specs.Means.{spoils, without_value}
use Rattle.zn_volume.specs.VolumeState.{VolumeState, mounted_in}
use Rattle.zn_session.specs.Replies.{Kept, text_of, IsWritable}
use Rattle.zn_session.specs.SessionState.{HeldState, SessionState, table_of, table_by, table_in, IsNumbered, AreNumbered, used_by, used_on}
use Rattle.zn_session.specs.declared.replies.Reply.{Reply}
use Rattle.zn_session.specs.declared.replies.Reply.TheVariants.{Refused, FormatRefused, MountRefused, InjectRefused}

-- ---- replies that end a run

-- a format ends a run where the device is broken, or memory is wanting
abbrev pub format_tells : FormatError → Result (Unit {0}) Refusal
format_tells format_broken = Err HasBroken
format_tells format_starved = Err Starved
format_tells _ = Ok tt

-- and so does a mount
abbrev pub mount_tells : MountError → Result (Unit {0}) Refusal
mount_tells mount_broken = Err HasBroken
mount_tells mount_starved = Err Starved
mount_tells _ = Ok tt

-- and so does what is done to the device
abbrev pub inject_tells : InjectError → Result (Unit {0}) Refusal
inject_tells inject_broken = Err HasBroken
inject_tells inject_starved = Err Starved
inject_tells _ = Ok tt

-- what a reply tells, without its value: all of a call's refusals, and of others what ends the run
abbrev pub told_by : Reply → Result (Unit {0}) Refusal
told_by (Refused refusal) = Err refusal
told_by (FormatRefused error) = format_tells error
told_by (MountRefused error) = mount_tells error
told_by (InjectRefused error) = inject_tells error
told_by _ = Ok tt

-- whether a reply ends the run: the device is broken, or memory is wanting
abbrev pub ends : Reply → Bool
ends reply = spoils (told_by reply)

-- ---- lines

-- a line that is a call on a mounted volume
abbrev pub IsCall : ScriptLine → Type 0
IsCall (Mkfs words) = ⊥
IsCall (Mount text) = ⊥
IsCall Umount = ⊥
IsCall Zones = ⊥
IsCall (Fault zone command keep) = ⊥
IsCall (Turn zone to) = ⊥
IsCall (PowerLoss fill words) = ⊥
IsCall (PowerLossIn zone command carried_out fill words) = ⊥
IsCall PowerOn = ⊥
IsCall _ = Unit {0}

-- A line that is a call on a mounted volume has the reply and leaves the table that are its own, unless it ends the run,
-- and then the reply has its cause. At most one handle is opened or one ticket given. What a read gave is at the front of
-- the bytes kept.
pub record Answers (line : Line) (reply : Reply) (kept : Kept) (old new : VolumeState)
    (numbers0 numbers : List (Option Handle)) : Type 0 where
  pub writable : IsWritable reply kept
  pub step : ends reply ≡ false → line_now kept.bytes (table_of (mounted_in old) numbers0) line
      ≡ says (text_of reply kept) (table_of (mounted_in new) numbers)
  pub numbered : ends reply ≡ false → IsNumbered (mounted_in new) numbers
  pub used : ends reply ≡ false → used_by new.volume ≤ used_by old.volume + 1
  pub cause : CallCause (told_by reply) old.device new.device

-- What a line's answer says of the device. It is spoilt only where the answer ends the run; then `Broken` comes only
-- where the count of breaks rose with the power on, and want of memory only over a device whose commands take some, or
-- before the first command of a line that takes some itself. The geometry stays.
pub record LineCause (itself : Bool) (told : Result (Unit {0}) Refusal) (old new : DeviceState) : Type 0 where
  pub unspoilt : spoils told ≡ false → new.spoilt ≡ false
  pub memory : new.takes_memory ≡ old.takes_memory
  pub starved : IsErrOf told Starved → (new ≡ old) ⊎ (old.takes_memory ≡ true)
  pub takes : IsErrOf told Starved → (old.takes_memory ≡ true) ⊎ (itself ≡ true)
  pub no_fewer : old.breaks ≤ new.breaks
  pub broken : IsErrOf told HasBroken → Rose old.breaks new.breaks
  pub whole : spoils told ≡ false → new.breaks ≡ old.breaks
  pub powered : IsErrOf told HasBroken → old.world.powered ≡ true
  pub still_powered : IsErrOf told HasBroken → new.world.powered ≡ true
  pub geometry : geometry_of new.world ≡ geometry_of old.world

-- what a line makes of a table
abbrev pub LineMeaning : Type 0
LineMeaning = List ℕ → Table → Line → Stepped

-- A line has the reply and leaves the table that it means, unless it ends the run, and then the reply has its cause.
-- At most one handle is opened or one ticket given.
pub record Means (means : LineMeaning) (line : Line) (reply : Reply) (kept : Kept) (entropy : List ℕ)
    (old new : HeldState) (numbers0 numbers : List (Option Handle)) : Type 0 where
  -- what the line's read gave, which counts only where the device doesn't tell its bytes
  pub given : List ℕ
  pub writable : IsWritable reply kept
  pub step : ends reply ≡ false → means given (table_by entropy old numbers0) line
      ≡ says (text_of reply kept) (table_by entropy new numbers)
  pub numbered : ends reply ≡ false → AreNumbered new numbers
  pub used : ends reply ≡ false → used_on new.volume ≤ used_on old.volume + 1
  pub cause : LineCause (takes_itself line) (told_by reply) old.device new.device

-- What harms the device that is held: its answer and its state are as meant, or have their causes, and a volume on it
-- stays as it is.
pub record Harms (meant : Injected) (result : InjectReply) (old new : HeldState) : Type 0 where
  pub device : Injecting meant result old.device new.device
  pub volume : new.volume ≡ old.volume

-- What the end of a line makes of what is held: without power the volume is gone, and no number has a handle.
pub record Dropped (old new : HeldState) (numbers0 numbers : List (Option Handle)) : Type 0 where
  pub device : new.device ≡ old.device
  pub table : (entropy : List ℕ) → table_by entropy new numbers
      ≡ dropped_unless old.device.world.powered (table_by entropy old numbers0)
  pub numbered : AreNumbered new numbers
  pub used : used_on new.volume ≤ used_on old.volume

-- a reply tells what a call on the volume answered
pub record IsReplyTo {X : Type 0} (told : X → List ℕ) (result : Result X Refusal)
    (reply : Reply) (kept : Kept) : Type 0 where
  pub writable : IsWritable reply kept
  pub text : text_of reply kept ≡ reply_text told refusal_name result
  pub same : without_value (told_by reply) ≡ without_value result

-- whether a close was refused since the file is busy
abbrev pub is_busy_answer : Result (Unit {0}) Refusal → Bool
is_busy_answer (Ok unit) = false
is_busy_answer (Err refusal) = is_busy refusal

-- ---- what is written

-- what became of a text that was to be written
abbrev pub Wrote : Step → List ℕ → SinkState → SinkState → Type 0
Wrote done_step text old new = Added text old new
Wrote (BadLine column) text old new = ⊥
Wrote Broken text old new = ⊥
Wrote SinkFault text old new = CutOff text old new
Wrote Memory text old new = ⊥

-- the same, as one fact
pub record Said (step : Step) (text : List ℕ) (old new : SinkState) : Type 0 where
  pub means : Wrote step text old new

-- ---- the end of a run

-- whether an answer tells want of memory
abbrev pub is_starved : Result (Unit {0}) Refusal → Bool
is_starved (Err Starved) = true
is_starved _ = false

-- how an answer ends a run: for want of memory where it tells that and no break came
abbrev pub ended_by : Bool → Result (Unit {0}) Refusal → Step
ended_by true answer = Broken
ended_by false (Err Starved) = Memory
ended_by false _ = Broken

-- whether no line may follow
abbrev pub stops : Step → Bool
stops done_step = false
stops _ = true

-- A line whose reply isn't written: the table is the one after it where lines may follow. Where none may, the count of
-- breaks rose, or memory was wanting.
pub record Performed (goes_on : Bool) (line : Line) (old new : SessionState) : Type 0 where
  pub over : new.over ≡ not goes_on
  pub counted : new.steps ≡ old.steps + 1
  pub given : List ℕ
  pub table : goes_on ≡ true → table_in new ≡ (line_step given (table_in old) line).table
  pub breaks : goes_on ≡ true → new.held.device.breaks ≡ old.held.device.breaks
  pub memory : new.held.device.takes_memory ≡ old.held.device.takes_memory
  pub ended : goes_on ≡ false
      → HasRisen old.held.device.breaks new.held.device.breaks ⊎ MayStarve old.held.device.takes_memory line
