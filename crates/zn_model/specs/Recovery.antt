-- What follows a failed command: a report of the file's zones, and the file changed by the policy's row.
-- ("filesystems/zonefs, IO error handling"; a failed report counts as offline, and the requests end: own)
use Rattle.std.specs.Prelude.{ℕ, ◌*◌, Bool, true, false, ◌&&◌, ◌||◌, not, ◌==◌, List, if◌then◌else◌, Option, Some, None, Result, Ok, Err}
use Rattle.zn_truth.specs.declared.limits.TheConstants.{BLOCK_SIZE}
use Rattle.zn_truth.specs.declared.Cond.TheVariants.{Offline}
use Rattle.zn_truth.specs.declared.Shape.{Shape}
use Rattle.zn_truth.specs.declared.ZoneInfo.{ZoneInfo}
use Rattle.zn_truth.specs.declared.DevError.{DevError}
use Rattle.zn_truth.specs.declared.DevError.TheVariants.{TooManyActive, TooManyOpen, PowerLost, Broken, Memory}
use Rattle.zn_truth.specs.Truth.{is_good}
use Rattle.zn_truth.specs.Orders.{Order, ReportFrom, Reply}
use Rattle.zn_truth.specs.World.{World, issue}
use Rattle.zn_model.specs.declared.files.Found.{Found}
use Rattle.zn_model.specs.declared.files.FileZones.{FileZones}
use Rattle.zn_model.specs.declared.files.Policy.{Policy}
use Rattle.zn_model.specs.declared.files.Shown.{Shown}
use Rattle.zn_model.specs.declared.answers.Refusal.{Refusal}
use Rattle.zn_model.specs.declared.answers.Refusal.TheVariants.{IoError, TooManyActive as refused_active, TooManyOpen as refused_open, PowerLost as refused_power, Broken as refused_broken, Memory as refused_memory}
use Rattle.zn_model.specs.ZoneFiles.{room_of}
use Rattle.zn_model.specs.ShownStates.{infos_of, worst, holds, policy_row, makes_read_only}
use Rattle.zn_model.specs.Volume.{Inodes, Queue, Volume, Mounted, file_at, shown_at, with_shown, failed}

-- a failure of the device, as a call tells it
abbrev pub refusal_of : DevError → Refusal
refusal_of TooManyActive = refused_active
refusal_of TooManyOpen = refused_open
refusal_of PowerLost = refused_power
refusal_of Broken = refused_broken
refusal_of Memory = refused_memory
refusal_of error = IoError

-- a failure that is passed on, with no recovery
abbrev pub is_passed_on : DevError → Bool
is_passed_on PowerLost = true
is_passed_on Broken = true
is_passed_on Memory = true
is_passed_on error = false

-- ---- what a report finds

-- one report of all the file's zones, and of no others
abbrev pub report_of : FileZones → Order
report_of file = ReportFrom file.first file.zones

-- what a report found of a file's zones, or the failure that is passed on
abbrev pub Finding : Type 0
Finding = Result Found DevError

-- a report that fails, but for what is passed on, finds the file offline
abbrev pub found_by : Reply → List ZoneInfo → Finding
found_by (Ok unit) infos = Ok (record { cond = worst infos; held = holds infos })
found_by (Err error) infos = if is_passed_on error then Err error else Ok (record { cond = Offline; held = 0 })

-- what a report of the file's zones finds
abbrev pub finding : World → FileZones → Finding
finding w file = found_by (issue w (report_of file)).reply (infos_of w.truth file)

-- ---- what becomes of the file

-- The file's state by the policy's row. It stays held open only where its zones are good and it isn't full.
abbrev pub recovered_shown : Policy → Found → Shape → FileZones → Shown → Shown
recovered_shown policy found shape file shown =
    policy_row policy found.cond (BLOCK_SIZE * found.held) shown.size
    (shown.held_open && is_good found.cond && not (found.held == room_of shape file))

-- the files after a recovery of one: its state, and the whole file system's where the policy says so
unfoldable pub recovered_inodes : Policy → Found → Inodes → ℕ → Inodes
recovered_inodes policy found inodes f =
    record (with_shown inodes f (recovered_shown policy found inodes.shape (file_at inodes f) (shown_at inodes f))) {
      read_only = inodes.read_only || makes_read_only policy;
    }

-- whether a file shows what a report found, and that is good
abbrev pub agrees : Found → Shown → Bool
agrees found shown = is_good found.cond && (BLOCK_SIZE * found.held == shown.size)

-- what of a finding is applied to the file: after a read nothing where the file agrees; nothing of a failure
-- that is passed on
abbrev pub applied : Bool → Finding → Shown → Option Found
applied after_read (Ok found) shown = if after_read && agrees found shown then None else Some found
applied after_read (Err error) shown = None

-- the files, and the requests, after this was applied to a file
abbrev pub inodes_after : Option Found → Policy → Inodes → ℕ → Inodes
inodes_after (Some found) policy inodes f = recovered_inodes policy found inodes f
inodes_after None policy inodes f = inodes

-- where something is applied, every request that waits for the file fails; else all stay
abbrev pub queue_after : Option Found → Queue → ℕ → Queue
queue_after (Some found) queue f = failed queue f
queue_after None queue f = queue

-- what is applied changes the files and the requests; the rest of the volume stays
abbrev pub volume_after : Option Found → Volume → ℕ → Volume
volume_after found v f = record v { inodes = inodes_after found v.policy v.inodes f; queue = queue_after found v.queue f }

-- ---- after a failure

-- what a report of the zones of the file with this number finds
abbrev pub finding_of : Mounted → ℕ → Finding
finding_of m f = finding m.world (file_at m.volume.inodes f)

-- a report of the file's zones, and what it makes of the volume
unfoldable pub recovered : Bool → Mounted → ℕ → Mounted
recovered after_read m f = record {
  world = (issue m.world (report_of (file_at m.volume.inodes f))).world;
  volume = volume_after (applied after_read (finding_of m f) (shown_at m.volume.inodes f)) m.volume f;
}

-- a failure that is passed on goes before the refusal that was to be told
abbrev pub told_after : Finding → Refusal → Refusal
told_after (Ok found) refusal = refusal
told_after (Err error) refusal = refusal_of error

-- what a call answers after a failed command, and what it leaves
pub record Failed : Type 0 where
  pub refusal : Refusal
  pub mounted : Mounted

-- a failure that is passed on leaves all as it is; after any other comes recovery, and a failure of its
-- report that is passed on is told instead
abbrev pub failed_by : Bool → Bool → Refusal → Mounted → ℕ → Failed
failed_by true after_read refusal m f = record { refusal = refusal; mounted = m }
failed_by false after_read refusal m f = record { refusal = told_after (finding_of m f) refusal; mounted = recovered after_read m f }

-- What follows a failed command of a call on a file: nothing where the failure is passed on, else recovery.
-- `after_read` says that the command was a read's.
unfoldable pub after_failure : Bool → DevError → Mounted → ℕ → Failed
after_failure after_read error m f = failed_by (is_passed_on error) after_read (refusal_of error) m f
