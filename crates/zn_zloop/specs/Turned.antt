-- What a zone that turns to a worse condition makes of its files, and of what is kept of it. (own)
use Rattle.std.specs.Prelude.{◌≡◌, ℕ, Bool, List, [], Option, Some, None, Ok}
use Rattle.std.specs.Option.{option_map}
use Rattle.zn_truth.specs.declared.Kind.{Kind}
use Rattle.zn_truth.specs.declared.Cond.{Cond}
use Rattle.zn_truth.specs.declared.Cond.TheVariants.{Good, ReadOnly, Offline}
use Rattle.zn_truth.specs.Truth.{cleared}
use Rattle.zn_truth.specs.Orders.{Reply}
use Rattle.zn_truth.specs.Obeying.{IsAnswered}
use Rattle.zn_stand.specs.File.{File, at_rest, synced}
use Rattle.zn_stand.specs.Maps.{Name}
use Rattle.zn_stand.specs.Directory.{Directory, file_at}
use Rattle.zn_stand.specs.ZoneNames.{read_only_name, offline_name}
use Rattle.zn_files.specs.States.{FilesState, directory}
use Rattle.zn_zloop.specs.Served.{ChangedWhereTold, BreakCause}

-- where contents are told, no file has this name
abbrev pub IsMissing : FilesState → Name → Type 0
IsMissing s name = (d : Directory) → directory s ≡ Some d → file_at d name ≡ None

-- the marker of a zone that turned to this condition, which is never `Good`
abbrev pub marker_name : Cond → Kind → ℕ → Name
marker_name Good kind z = read_only_name kind z
marker_name ReadOnly kind z = read_only_name kind z
marker_name Offline kind z = offline_name kind z

-- the file of the zone is at rest with the bytes that it has
abbrev pub IsSyncedFrom : Option File → Option File → Type 0
IsSyncedFrom old new = new ≡ option_map synced old

-- a file is empty and at rest
abbrev pub IsEmptyFile : Option File → Option File → Type 0
IsEmptyFile old new = new ≡ Some (at_rest [])

-- First the file of the zone is synced. Then its marker is made.
pub record Turned (name marker : Name) (old new : Option Directory) : Type 0 where
  pub middle : Option Directory
  pub file : ChangedWhereTold name IsSyncedFrom old middle
  pub marker_file : ChangedWhereTold marker IsEmptyFile middle new

-- Calls that do so answer that all is done, `Broken` or `Memory`.
pub record Turns (name marker : Name) (result : Reply) (old new : FilesState) : Type 0 where
  pub done : IsAnswered result → result ≡ Ok tt
  pub turned : IsAnswered result → Turned name marker (directory old) (directory new)
  pub cause : BreakCause result old.faults new.faults

-- the durable blocks, of so many that the zone held
abbrev pub turned_durable : Cond → ℕ → ℕ
turned_durable Good held = held
turned_durable ReadOnly held = held
turned_durable Offline held = 0

-- the flags of unflushed blocks
abbrev pub turned_flags : Cond → List Bool → List Bool
turned_flags Good flags = cleared flags
turned_flags ReadOnly flags = cleared flags
turned_flags Offline flags = []
