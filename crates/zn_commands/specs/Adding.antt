-- What the command `add` does, by its status. (own)
use Rattle.std.specs.Prelude.{◌≡◌, ◌≢◌, ◌↔◌, [], Some, Result, slice_get}
use Rattle.std.specs.FinMap.{keys}
use Rattle.zn_base.specs.States.{SinkState}
use Rattle.zn_lines.specs.ReplyTexts.{ok_text}
use Rattle.zn_run.specs.Headline.{Closed}
use Rattle.zn_run.specs.States.{Added}
use Rattle.zn_run.specs.declared.status.Status.{Status}
use Rattle.zn_run.specs.declared.status.Status.TheVariants.{Done, Directory as BadDirectory, Memory}
use Rattle.zn_stand.specs.declared.numbers.Geometry.{Geometry}
use Rattle.zn_stand.specs.Maps.{Name}
use Rattle.zn_stand.specs.Directory.{Directory}
use Rattle.zn_files.specs.States.{FilesState, directory}
use Rattle.zn_backing.specs.declared.error.CreateError.{CreateError}
use Rattle.zn_backing.specs.Creating.{HasNewDevice, Creates}
use Rattle.zn_commands.specs.Lines.{not_empty, add_status, add_line}
use Rattle.zn_commands.specs.Causes.{IsQuiet, EndCauses}

-- A device was to be made, with this outcome, which the last line and the status tell.
pub record Adds (geo : Geometry) (status : Status) (old new : FilesState) (before after : SinkState) : Type 0 where
  pub outcome : Result (Unit {0}) CreateError
  pub creates : Creates geo outcome old new
  pub closed : Closed status (add_status outcome) (add_line outcome) before after

-- ---- causes

-- A device was made: the directory was empty, is at rest now, and holds a new device. No count rose.
pub record HasAdded (geo : Geometry) (old new : FilesState) (before after : SinkState) : Type 0 where
  pub line : Added ok_text before after
  pub kept : new.faults ≡ old.faults
  pub empty : (d : Directory) → directory old ≡ Some d → keys d ≡ []
  pub made : (d : Directory) → directory old ≡ Some d → HasNewDevice geo new

-- The directory holds a name, of which the first is told, and stays as it was.
pub record IsNotEmpty (old new : FilesState) (before after : SinkState) : Type 0 where
  pub name : Name
  pub line : Added (not_empty name) before after
  pub first : (d : Directory) → directory old ≡ Some d → slice_get (keys d) 0 ≡ Some name
  pub same : (d : Directory) → directory old ≡ Some d → directory new ≡ Some d

-- When each status comes.
pub record AddCauses (geo : Geometry) (status : Status) (old new : FilesState) (before after : SinkState) : Type 0 where
  pub done : status ≡ Done → HasAdded geo old new before after
  pub refused : status ≡ BadDirectory → IsNotEmpty old new before after
  pub others : EndCauses status old new before after
  -- where no call failed and memory sufficed, a device is made exactly in an empty directory
  pub exact : (d : Directory) → directory old ≡ Some d → IsQuiet old new before after → status ≢ Memory
      → (status ≡ Done) ↔ (keys d ≡ [])
