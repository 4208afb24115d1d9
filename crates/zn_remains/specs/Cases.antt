-- A small device, worked through: losses of power in single events, and in the lines of a script.
use Rattle.std.specs.Prelude.{◌≡◌, ℕ, ◌*◌, Bool, true, false, List, [], ◌∷◌, ◌++◌, replicate, Some, None, codes}
use Rattle.zn_base.specs.Runs.{Run}
use Rattle.zn_truth.specs.declared.Armed.{Armed}
use Rattle.zn_truth.specs.declared.Command.{Command}
use Rattle.zn_truth.specs.declared.Command.TheVariants.{Write, Reset}
use Rattle.zn_truth.specs.declared.Cond.TheVariants.{Good}
use Rattle.zn_truth.specs.declared.Kind.TheVariants.{Conventional, Sequential}
use Rattle.zn_truth.specs.declared.ZoneOp.TheVariants.{Reset as do_reset}
use Rattle.zn_truth.specs.Truth.{Zone, Truth}
use Rattle.zn_truth.specs.Orders.{ReadAt, WriteAt, Manage, FlushAll, ReportFrom}
use Rattle.zn_truth.specs.World.{World, calm}
use Rattle.zn_model.specs.SuperBlock.{encoded}
use Rattle.zn_model.specs.SuperLaws.{example}
use Rattle.zn_lines.specs.Grammar.{root}
use Rattle.zn_lines.specs.Lines.{Mount, OpenFile, WriteTo, SyncFile, PowerLossIn, PowerOn}
use Rattle.zn_lines.specs.Table.{Table, fresh_table}
use Rattle.zn_remains.specs.Events.{Ordered, LossArmed, PowerBack, after_event, after_events, PowerGoes}
use Rattle.zn_remains.specs.Histories.{Carried, after_lines, events_of}
use Rattle.zn_remains.specs.Laws.{MayBegin}

-- ---- the device

-- so many blocks of one byte
abbrev pub blocks : ℕ → ℕ → List ℕ
blocks n byte = replicate (4096 * n) byte

-- a good sequential zone: its blocks, how many of them are durable, and their bytes
abbrev pub holding : ℕ → ℕ → List ℕ → Zone
holding held durable bytes = record { kind = Sequential; cond = Good; held = held; bytes = bytes; durable = durable; unflushed = []; explicit = false }

-- a conventional zone that begins with two copies of a super block
abbrev pub formatted_zone : Zone
formatted_zone = record {
  kind = Conventional;
  cond = Good;
  held = 4;
  bytes = encoded example ++ encoded example ++ blocks 2 0;
  durable = 4;
  unflushed = false ∷ false ∷ false ∷ false ∷ [];
  explicit = false;
}

-- two zones of four blocks, without limits, on a device that tells its bytes
abbrev pub device : Zone → Truth
device zone = record { told = true; shape = record { zone_blocks = 4; zone_capacity = 4; max_open = 0; max_active = 0 }; zones = formatted_zone ∷ zone ∷ [] }

-- a loss in a command on zone 1: zone 1 is cut to three blocks, and bytes that aren't durable become 238
abbrev pub cut_to_three : Command → Bool → Armed
cut_to_three command carried_out = record { zone = record { 0 = 1 }; command = command; carried_out = carried_out; loss = record { cuts = (record { 0 = 1 }, 3) ∷ []; fill = Some 238 } }

-- the device with power, and such a loss waiting
abbrev pub waiting : Armed → Zone → World
waiting armed zone = record { truth = device zone; powered = true; pending = []; armed = Some armed }

-- the device without power
abbrev pub dark : Zone → World
dark zone = record { truth = device zone; powered = false; pending = []; armed = None }

-- ---- single events

-- two blocks, of which the first is durable
abbrev pub half_durable : Zone
half_durable = holding 2 1 (blocks 1 97 ++ blocks 1 98)

-- Two more blocks are written, and the power goes inside the write: the durable block is there with its bytes, and the zone
-- ends at three blocks, no later than at the four that were issued. When the power is back it is still so.
pub record LossInWrite : Type 0 where
  pub goes : after_event (waiting (cut_to_three Write false) half_durable) (Ordered (WriteAt 1 2 (blocks 2 99))) ≡ dark (holding 3 3 (blocks 1 97 ++ blocks 2 238))
  pub stays : after_events (dark (holding 3 3 (blocks 1 97 ++ blocks 2 238))) (Ordered (WriteAt 1 3 (blocks 1 99)) ∷ Ordered FlushAll ∷ PowerBack ∷ []) ≡ calm (device (holding 3 3 (blocks 1 97 ++ blocks 2 238)))

-- The power goes inside a reset: that is done, and the zone is empty, or not done, and it keeps what is durable.
pub record LossInReset : Type 0 where
  pub done : after_event (waiting (cut_to_three Reset true) half_durable) (Ordered (Manage 1 do_reset)) ≡ dark (holding 0 0 [])
  pub not_done : after_event (waiting (cut_to_three Reset false) half_durable) (Ordered (Manage 1 do_reset)) ≡ dark (holding 2 2 (blocks 1 97 ++ blocks 1 238))

-- ---- a script

-- a session on the device, whose zone 1 is empty
abbrev pub session : Table
session = fresh_table (device (holding 0 0 [])) (replicate 16 7)

-- so many bytes of one kind
abbrev pub run : ℕ → ℕ → List Run
run byte count = record { byte = byte; count = count } ∷ []

-- The lines, each with the events that it makes: the first block of `seq/0` is written and synced, a second one is
-- written, and a loss is told to wait for the next write.
abbrev pub mounts : Carried
mounts = record { given = []; line = Mount None; events = Ordered (ReportFrom 0 2) ∷ Ordered (ReadAt 0 0 2) ∷ [] }

-- to read and to write, and as the user 0
abbrev pub opens : Carried
opens = record { given = []; line = OpenFile 0 (codes "seq/0") (record { 0 = 3 }) root; events = [] }

abbrev pub writes_first : Carried
writes_first = record { given = []; line = WriteTo 0 0 (run 97 4096); events = Ordered (WriteAt 1 0 (blocks 1 97)) ∷ [] }

abbrev pub syncs : Carried
syncs = record { given = []; line = SyncFile 0; events = Ordered FlushAll ∷ [] }

abbrev pub writes_second : Carried
writes_second = record { given = []; line = WriteTo 0 4096 (run 98 4096); events = Ordered (WriteAt 1 1 (blocks 1 98)) ∷ [] }

abbrev pub arms : Carried
arms = record { given = []; line = PowerLossIn 1 Write false (Some 238) ((record { 0 = 1 }, 3) ∷ []); events = LossArmed (cut_to_three Write false) ∷ [] }

abbrev pub lines_before : List Carried
lines_before = mounts ∷ opens ∷ writes_first ∷ syncs ∷ writes_second ∷ arms ∷ []

-- two more blocks are written, inside which the power goes, and it comes back
abbrev pub writes_third : Carried
writes_third = record { given = []; line = WriteTo 0 8192 (run 99 8192); events = Ordered (WriteAt 1 2 (blocks 2 99)) ∷ [] }

abbrev pub powers : Carried
powers = record { given = []; line = PowerOn; events = PowerBack ∷ [] }

abbrev pub lines_behind : List Carried
lines_behind = writes_third ∷ powers ∷ []

-- What the session's device holds before the power goes, and after it is back; and that the events of the lines lead there,
-- among them the one at which it goes.
pub record LossInScript : Type 0 where
  pub begins : MayBegin session
  pub before : (after_lines session lines_before).world ≡ waiting (cut_to_three Write false) half_durable
  pub events_before : after_events session.world (events_of lines_before) ≡ waiting (cut_to_three Write false) half_durable
  pub goes : PowerGoes (after_events session.world (events_of lines_before)) (Ordered (WriteAt 1 2 (blocks 2 99)))
  pub after : (after_lines session (lines_before ++ lines_behind)).world ≡ calm (device (holding 3 3 (blocks 1 97 ++ blocks 2 238)))
  pub events_after : after_events session.world (events_of (lines_before ++ lines_behind)) ≡ calm (device (holding 3 3 (blocks 1 97 ++ blocks 2 238)))
