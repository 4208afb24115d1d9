-- Which events a line of a script makes on the device. (own)
use Rattle.std.specs.Prelude.{◌≡◌, ℕ, Bool, true, false, ◌==◌, List, [], ◌∷◌, Option, Some, None, IfSome, IsTrue}
use Rattle.std.specs.List.{list_any}
use Rattle.zn_truth.specs.declared.Command.{Command}
use Rattle.zn_truth.specs.declared.Command.TheVariants.{Read, Write, Reset, Finish, Flush, Open, Close, Report}
use Rattle.zn_truth.specs.Truth.{Geometry}
use Rattle.zn_truth.specs.Orders.{Order, ReadAt, WriteAt, Manage, FlushAll, ReportFrom}
use Rattle.zn_truth.specs.World.{code_of, command_of}
use Rattle.zn_truth.specs.Obeying.{IsOrderFor}
use Rattle.zn_model.specs.declared.handles.Handle.{Handle}
use Rattle.zn_model.specs.ZoneFiles.{file_named, has_zone}
use Rattle.zn_model.specs.Volume.{Volume, Live, Request, file_at, live_at}
use Rattle.zn_lines.specs.Lines.{Line, Mkfs, Mount, OpenFile, CloseFile, ReadFrom, WriteTo, TruncateTo, SyncFile, Complete, Zones, FaultOn, TurnTo, PowerLoss, PowerLossIn, PowerOn}
use Rattle.zn_lines.specs.Table.{Table, handle_of}
use Rattle.zn_remains.specs.Events.{Event, Ordered, FaultAsked, Turned, PowerLost, LossArmed, PowerBack}

-- ---- the commands of a line

-- a truncate to 0 empties the file, and opens it again where it is held open; any other fills it
abbrev pub truncates : Bool → List Command
truncates true = Reset ∷ Open ∷ Report ∷ []
truncates false = Finish ∷ Report ∷ []

-- The commands that a line may issue to the device. Each call on a file may end in a report of the file's zones.
abbrev pub commands_of : Line → List Command
commands_of (Mkfs words) = Report ∷ Read ∷ Write ∷ Flush ∷ Reset ∷ Finish ∷ []
commands_of (Mount text) = Report ∷ Read ∷ Close ∷ []
commands_of (OpenFile n path mode who) = Open ∷ Report ∷ []
commands_of (CloseFile n) = Close ∷ Report ∷ []
commands_of (ReadFrom n offset len) = Read ∷ Report ∷ []
commands_of (WriteTo n offset runs) = Write ∷ Report ∷ []
commands_of (TruncateTo n size) = truncates (size == 0)
commands_of (SyncFile n) = Flush ∷ Report ∷ []
commands_of Complete = Write ∷ Report ∷ []
commands_of Zones = Report ∷ []
commands_of line = []

-- ---- the zones of a line

-- whether a zone is one of the file with this number
abbrev pub in_file : Volume → ℕ → ℕ → Bool
in_file v f z = has_zone z (file_at v.inodes f)

-- of the file that is found, if one is
abbrev pub in_found : Volume → Option ℕ → ℕ → Bool
in_found v None z = false
in_found v (Some f) z = in_file v f z

-- of the file on which a handle is open, if it is live
abbrev pub in_live : Volume → Option Live → ℕ → Bool
in_live v None z = false
in_live v (Some live) z = in_file v live.file z

-- of the file on which the handle is open that a number of the script has, if it has one
abbrev pub in_open : Volume → Option Handle → ℕ → Bool
in_open v None z = false
in_open v (Some h) z = in_live v (live_at v.handles h) z

-- of the file of the oldest request that waits, if one does
abbrev pub in_first : Volume → List Request → ℕ → Bool
in_first v [] z = false
in_first v (request ∷ waiting) z = in_file v request.file z

-- no zone where nothing is mounted
abbrev pub in_mounted : Option Volume → (Volume → ℕ → Bool) → ℕ → Bool
in_mounted None zones z = false
in_mounted (Some v) zones z = zones v z

-- The zones that a line may name to the device: all of them where it formats or mounts, and else those of its file.
abbrev pub may_name : Table → Line → ℕ → Bool
may_name table (Mkfs words) z = true
may_name table (Mount text) z = true
may_name table (OpenFile n path mode who) z = in_mounted table.volume (λ v. in_found v (file_named v.inodes.layout path)) z
may_name table (CloseFile n) z = in_mounted table.volume (λ v. in_open v (handle_of table n)) z
may_name table (ReadFrom n offset len) z = in_mounted table.volume (λ v. in_open v (handle_of table n)) z
may_name table (WriteTo n offset runs) z = in_mounted table.volume (λ v. in_open v (handle_of table n)) z
may_name table (TruncateTo n size) z = in_mounted table.volume (λ v. in_open v (handle_of table n)) z
may_name table Complete z = in_mounted table.volume (λ v. in_first v v.queue.queued) z
may_name table line z = false

-- the zone that an order names, if it is one: a flush and a report name none
abbrev pub zone_of : Order → Option ℕ
zone_of (ReadAt z at n) = Some z
zone_of (WriteAt z at bytes) = Some z
zone_of (Manage z op) = Some z
zone_of FlushAll = None
zone_of (ReportFrom first n) = None

-- ---- the events of a line

-- An order that fits the device, is one of these commands, and names one of these zones, if it names one.
pub record IsOrderOf (g : Geometry) (commands : List Command) (zones : ℕ → Bool) (order : Order) : Type 0 where
  pub fits : IsOrderFor g order
  pub command : IsTrue (list_any (λ command. code_of command == code_of (command_of order)) commands)
  pub zone : IfSome (zone_of order) (λ z. IsTrue (zones z))

-- what a line asks for that is no order
abbrev pub asked_by : Line → Option Event
asked_by (FaultOn z command keep) = Some (FaultAsked (record { zone = record { 0 = z }; command = command; keep = keep }))
asked_by (TurnTo z to) = Some (Turned z to)
asked_by (PowerLoss fill cuts) = Some (PowerLost (record { cuts = cuts; fill = fill }))
asked_by (PowerLossIn z command carried_out fill cuts) =
    Some (LossArmed (record { zone = record { 0 = z }; command = command; carried_out = carried_out; loss = record { cuts = cuts; fill = fill } }))
asked_by PowerOn = Some PowerBack
asked_by line = None

-- An event that a line may make: an order of one of its commands on one of its zones, or what it asks for itself.
abbrev pub Makes : Geometry → Table → Line → Event → Type 0
Makes g table line (Ordered order) = IsOrderOf g (commands_of line) (may_name table line) order
Makes g table line event = asked_by line ≡ Some event
