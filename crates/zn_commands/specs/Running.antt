-- The run of a script on the device that lies in a directory. (own)
use Rattle.std.specs.Prelude.{◌≡◌, ◌⊎◌, ℕ, false, List, Option, Some, Ok, Err}
use Rattle.zn_base.specs.Told.{IsAtEnd}
use Rattle.zn_device.specs.States.{DeviceState}
use Rattle.zn_truth.specs.Truth.{Truth}
use Rattle.zn_stand.specs.Directory.{Directory, contents, rested}
use Rattle.zn_stand.specs.AtRest.{Cause, at_rest}
use Rattle.zn_stand.specs.Standing.{StandsFor}
use Rattle.zn_files.specs.States.{FilesState, directory, is_told}
use Rattle.zn_backing.specs.declared.error.OpenError.{OpenError}
use Rattle.zn_backing.specs.Actives.{IsCause}
use Rattle.zn_backing.specs.Steps.{IsCauseIn}
use Rattle.zn_zloop.specs.Opening.{Opened, LeftShut}
use Rattle.zn_lines.specs.Table.{fresh_table}
use Rattle.zn_lines.specs.Transcript.{whole_text}
use Rattle.zn_run.specs.Endings.{out_of_memory}
use Rattle.zn_run.specs.Headline.{Closed}
use Rattle.zn_run.specs.Laws.{EndsNear}
use Rattle.zn_run.specs.States.{MachineState, Run, HasRisen, Added, run_of}
use Rattle.zn_run.specs.Statuses.{status_of}
use Rattle.zn_run.specs.declared.status.Status.{Status}
use Rattle.zn_run.specs.declared.status.Status.TheVariants.{Done, Usage, Script, Directory as BadDirectory, HostFault}
use Rattle.zn_run.specs.declared.status.Status.TheVariants.{ReadFault, WriteFault, Memory}
use Rattle.zn_commands.specs.Lines.{open_status, open_line}
use Rattle.zn_commands.specs.Devices.{LiesIn}
use Rattle.zn_commands.specs.LineZero.{line_zero, transcript_with, RunsBehind}
use Rattle.zn_commands.specs.Outside.{Outside, IsQuiet, IsCountKept}

-- the machine on a device that was opened: nothing is mounted, no number has a handle, and no line was given
abbrev pub opened_machine : DeviceState → List ℕ → MachineState
opened_machine device entropy = record {
  table = fresh_table device.world.truth entropy;
  over = false;
  spoilt = false;
  breaks = device.breaks;
  takes_memory = device.takes_memory;
  steps = 0;
}

-- The directory of the device that a machine works on: its faults are the machine's breaks, and, where its contents are
-- told and no command broke or lacked memory, they stand for what the table holds.
pub record LiesBelow (machine : MachineState) (files : FilesState) : Type 0 where
  pub breaks : machine.breaks ≡ files.faults
  pub told : machine.spoilt ≡ false → machine.table.world.truth.told ≡ is_told files
  pub stands : (d : Directory) → machine.spoilt ≡ false → directory files ≡ Some d
      → StandsFor (contents d) machine.table.world.truth

-- the directory isn't opened as a device, and nothing is read
pub record RunsShut (result : Status) (old new : Outside) : Type 0 where
  pub why : OpenError
  pub shut : LeftShut why old.files new.files
  pub source : new.source ≡ old.source
  pub closed : Closed result (open_status why) (open_line why) old.sink new.sink

-- There was no memory for a session on the device that was opened, which the directory still holds. Nothing is read.
pub record RunsStarved (result : Status) (old new : Outside) : Type 0 where
  pub device : DeviceState
  pub files : FilesState
  pub opened : Opened device old.files files
  pub lies : LiesIn device new.files
  pub source : new.source ≡ old.source
  pub closed : Closed result Memory out_of_memory old.sink new.sink

-- The directory is opened as a device, and line 0 and the script are run on it. In the end the directory holds what the
-- run left.
pub record RunsOpened (options : Option (List ℕ)) (entropy : List ℕ) (result : Status)
    (old new : Outside) : Type 0 where
  pub device : DeviceState
  pub files : FilesState
  pub opened : Opened device old.files files
  pub machine : MachineState
  pub runs : RunsBehind (line_zero options) result
      (run_of (opened_machine device entropy) old.source old.sink) (run_of machine new.source new.sink)
  pub lies : LiesBelow machine new.files

-- one of these
pub record Runs (options : Option (List ℕ)) (entropy : List ℕ) (result : Status) (old new : Outside) : Type 0 where
  pub means : RunsShut result old new ⊎ (RunsStarved result old new ⊎ RunsOpened options entropy result old new)

-- ---- when each status comes

-- A directory that isn't opened as a device: the line tells the cause, which is the first one where contents are told;
-- they are those that were there, and durable. Nothing is read.
pub record WasShut (old new : Outside) : Type 0 where
  pub why : OpenError
  pub is : IsCause why
  pub line : Added (open_line why) old.sink new.sink
  pub source : new.source ≡ old.source
  pub cause : (d : Directory) → directory old.files ≡ Some d → IsCauseIn (contents d) why
  pub rest : (d : Directory) → directory old.files ≡ Some d → directory new.files ≡ Some (rested (contents d))

-- The script ended the run at a line, or the host failed in one: from its first byte on the source has given few bytes,
-- and none at all at line 0.
abbrev pub EndsEarly : Outside → Outside → Type 0
EndsEarly old new =
    (new.source ≡ old.source)
    ⊎ ((start : Run) × (start.source ≡ old.source) × EndsNear start (record { source = new.source; sink = new.sink }))

-- When each status of a run on a directory comes. Want of memory is free, and what the script says is told apart.
pub record RunningCauses (status : Status) (old new : Outside) : Type 0 where
  -- the script was read to its end, and no count rose
  pub read : status ≡ Done → IsAtEnd new.source.left
  pub done : status ≡ Done → IsCountKept old new
  pub usage : status ≡ Usage → ⊥
  pub directory : status ≡ BadDirectory → WasShut old new
  pub host : status ≡ HostFault → HasRisen old.files.faults new.files.faults
  pub early : (status ≡ Script) ⊎ (status ≡ HostFault) → EndsEarly old new
  pub source : status ≡ ReadFault → HasRisen old.source.faults new.source.faults
  pub sink : status ≡ WriteFault → HasRisen old.sink.faults new.sink.faults

-- ---- whole runs

-- the directory stands for this device
pub record Holds (t : Truth) (files : FilesState) : Type 0 where
  pub d : Directory
  pub told : directory files ≡ Some d
  pub stands : StandsFor (contents d) t

-- The whole text of the transcript is written, from the device that the directory stood for, at rest, with the status
-- of its ending; and the directory stands then for the device that the transcript leaves.
pub record IsWhole (options : Option (List ℕ)) (t : Truth) (entropy script : List ℕ) (result : Status)
    (old new : Outside) : Type 0 where
  pub ends : result ≡ status_of (transcript_with options (fresh_table t entropy) script).ending
  pub text : Added (whole_text (transcript_with options (fresh_table t entropy) script)) old.sink new.sink
  pub holds : Holds (transcript_with options (fresh_table t entropy) script).table.world.truth new.files

-- Where no call failed, and a directory tells its contents: where they stand for a device at rest, and the source tells
-- its script, the run is whole; where they stand for none, that is the status; unless memory was wanting.
pub record RunsWhole (options : Option (List ℕ)) (entropy : List ℕ) (status : Status) (old new : Outside) : Type 0 where
  pub whole : (script : List ℕ) (d : Directory) (t : Truth) → old.source.left ≡ Some script
      → directory old.files ≡ Some d → at_rest (contents d) ≡ Ok t → IsQuiet old new
      → IsWhole options t entropy script status old new ⊎ (status ≡ Memory)
  pub refused : (d : Directory) (cause : Cause) → directory old.files ≡ Some d → at_rest (contents d) ≡ Err cause
      → IsQuiet old new → (status ≡ BadDirectory) ⊎ (status ≡ Memory)
