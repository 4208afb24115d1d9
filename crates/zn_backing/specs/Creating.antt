-- What making a new device in an empty directory owes. (own)
use Rattle.std.specs.Prelude.{◌≡◌, ◌≢◌, ◌↔◌, ℕ, ◌≤◌, false, List, [], Option, Some, Result, Ok, Err, slice_get, IsErrOf, OnOk}
use Rattle.std.specs.FinMap.{keys}
use Rattle.zn_base.specs.Causes.{Rose}
use Rattle.zn_stand.specs.declared.numbers.Geometry.{Geometry}
use Rattle.zn_stand.specs.Maps.{Name}
use Rattle.zn_stand.specs.Directory.{Directory, Contents, contents, rested}
use Rattle.zn_stand.specs.ZoneNames.{kinds_of}
use Rattle.zn_stand.specs.DeviceText.{is_within}
use Rattle.zn_stand.specs.AtRest.{at_rest}
use Rattle.zn_stand.specs.Calls.{TellNames}
use Rattle.zn_stand.specs.History.{LeavesOnly}
use Rattle.zn_files.specs.States.{FilesState, directory, is_told, MayLeaveInside}
use Rattle.zn_device.specs.Fresh.{fresh}
use Rattle.zn_backing.specs.declared.error.CreateError.{CreateError}
use Rattle.zn_backing.specs.declared.error.CreateError.TheVariants.{BadGeometry, Exists, Fault}
use Rattle.zn_backing.specs.Making.{IsCaused, HasDeviceLast}

-- the directory is at rest, and its contents are those of a new device
pub record IsNew (geo : Geometry) (d : Directory) : Type 0 where
  pub rested : d ≡ rested (contents d)
  pub device : at_rest (contents d) ≡ Ok (fresh geo.shape (kinds_of geo))

-- there is such a directory
pub record HasNewDevice (geo : Geometry) (s : FilesState) : Type 0 where
  pub d : Directory
  pub told : directory s ≡ Some d
  pub is : IsNew geo d

-- A directory that isn't empty is refused with its first name; nothing is changed.
pub record RefusesNames (result : Result (Unit {0}) CreateError) (old new : FilesState) : Type 0 where
  pub cause : IsCaused result old new
  pub plain : result ≢ Err BadGeometry
  pub same : result ≢ Err Fault → directory new ≡ directory old
  pub first : (name : Name) (d : Directory) → result ≡ Err (Exists name) → directory old ≡ Some d → slice_get (keys d) 0 ≡ Some name
  pub none : (d : Directory) → directory old ≡ Some d → OnOk result (keys d ≡ [])
  pub stops : LeavesOnly old.history new.history (MayLeaveInside TellNames (directory old))

-- What making a new device owes. `BadGeometry` is answered exactly where a limit is broken, before any call on a file.
-- Where contents are told, `Exists` is answered with the first name of a directory that isn't empty, which stays as it
-- was; so where it holds a name, the answer is never Ok. At Ok the directory is at rest, and holds a new device. A stop
-- meanwhile, whatever the answer, leaves no file `device` before the file of each zone is there with its bytes. `Fault`
-- is answered only where the count rose, and any other answer leaves it.
pub record Creates (geo : Geometry) (result : Result (Unit {0}) CreateError) (old new : FilesState) : Type 0 where
  pub later : old.faults ≤ new.faults
  pub fault : IsErrOf result Fault → Rose old.faults new.faults
  pub kept : result ≢ Err Fault → new.faults ≡ old.faults
  pub told : is_told new ≡ is_told old
  pub geometry : IsErrOf result BadGeometry ↔ (is_within geo ≡ false)
  pub untouched : IsErrOf result BadGeometry → new ≡ old
  pub first : (name : Name) (d : Directory) → IsErrOf result (Exists name) → directory old ≡ Some d → slice_get (keys d) 0 ≡ Some name
  pub refused : (name : Name) (d : Directory) → IsErrOf result (Exists name) → directory old ≡ Some d → directory new ≡ Some d
  pub none : (d : Directory) → directory old ≡ Some d → OnOk result (keys d ≡ [])
  pub made : (d : Directory) → directory old ≡ Some d → OnOk result (HasNewDevice geo new)
  pub stops : (d : Directory) → directory old ≡ Some d → keys d ≡ [] → LeavesOnly old.history new.history (HasDeviceLast geo)
