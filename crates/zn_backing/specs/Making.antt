-- What the calls leave that make files in a directory, one after another. (own)
use Rattle.std.specs.Prelude.{◌≡◌, ◌≢◌, ℕ, ◌<◌, ◌≤◌, ◌*◌, ◌==◌, Bool, true, false, List, [], Option, Some, None, Result, Ok, Err, IsErrOf, IsSome, IsTrue, IfErr, OnOk, if◌then◌else◌}
use Rattle.std.specs.Option.{option_map}
use Rattle.zn_base.specs.Causes.{Rose}
use Rattle.zn_truth.specs.declared.limits.TheConstants.{BLOCK_SIZE}
use Rattle.zn_truth.specs.declared.Kind.{Kind}
use Rattle.zn_truth.specs.declared.Kind.TheVariants.{Conventional, Sequential}
use Rattle.zn_truth.specs.declared.Shape.{Shape}
use Rattle.zn_truth.specs.Fresh.{fresh_zone}
use Rattle.zn_stand.specs.declared.numbers.Geometry.{Geometry}
use Rattle.zn_stand.specs.File.{File, at_rest, resized}
use Rattle.zn_stand.specs.Maps.{Name}
use Rattle.zn_stand.specs.Directory.{Directory, Contents, file_at, bytes_at, MayHave}
use Rattle.zn_stand.specs.ZoneNames.{kind_of, device_name, zone_name}
use Rattle.zn_stand.specs.History.{LeavesOnly}
use Rattle.zn_files.specs.declared.error.FileError.{FileError}
use Rattle.zn_files.specs.States.{FilesState, directory, is_told}
use Rattle.zn_backing.specs.declared.error.CreateError.{CreateError}
use Rattle.zn_backing.specs.declared.error.CreateError.TheVariants.{BadGeometry, Exists, Fault, Memory}
use Rattle.zn_backing.specs.Failures.{not_made}

-- ---- answers

-- what a call answers that makes a file, where its files answer this
abbrev pub made_answer : Result (Unit {0}) FileError → Result (Unit {0}) CreateError
made_answer (Ok unit) = Ok tt
made_answer (Err fault) = Err (not_made fault)

-- the error lies in a call or in memory, and not in what was asked for
abbrev pub is_failure : CreateError → Bool
is_failure BadGeometry = false
is_failure (Exists name) = false
is_failure Fault = true
is_failure Memory = true

-- A count of faults never falls, rose where `Fault` is answered, and stays at any other answer. Whether contents are
-- told stays.
pub record IsCaused {T : Type 0} (result : Result T CreateError) (old new : FilesState) : Type 0 where
  pub later : old.faults ≤ new.faults
  pub fault : IsErrOf result Fault → Rose old.faults new.faults
  pub kept : result ≢ Err Fault → new.faults ≡ old.faults
  pub told : is_told new ≡ is_told old

-- where contents are told, the directory has P
abbrev pub Holds : FilesState → (Directory → Type 0) → Type 0
Holds s P = (d : Directory) → directory s ≡ Some d → P d

-- ---- one file

-- the file of this name became what the change makes of it, and the others are as they were
pub record IsChanged (name : Name) (change : Option File → Option File) (d e : Directory) : Type 0 where
  pub file : file_at e name ≡ change (file_at d name)
  pub others : (q : Name) → q ≢ name → file_at e q ≡ file_at d q

-- contents are told, and of each file but this one there is what a stop may leave of it
pub record LeavesOthers (name : Name) (s : FilesState) (image : Contents) : Type 0 where
  pub d : Directory
  pub told : directory s ≡ Some d
  pub others : (q : Name) → q ≢ name → MayHave (file_at d q) (bytes_at image q)

-- Calls on one file, one after another. At Ok it is changed so. A stop meanwhile, whatever the answer, leaves of the
-- others what it may leave of them now.
pub record MakesFile (name : Name) (change : Option File → Option File) (result : Result (Unit {0}) CreateError) (old new : FilesState) : Type 0 where
  pub cause : IsCaused result old new
  pub plain : IfErr result (λ e. IsTrue (is_failure e))
  pub done : OnOk result ((d e : Directory) → directory old ≡ Some d → directory new ≡ Some e → IsChanged name change d e)
  pub stops : LeavesOnly old.history new.history (LeavesOthers name old)

-- a file that grows to a length by zeros, unless it stays empty
abbrev pub grown : ℕ → File → File
grown len f = if len == 0 then f else resized f len

-- the file is there, at rest with these bytes
abbrev pub rested_file : List ℕ → Option File → Option File
rested_file bytes file = Some (at_rest bytes)

-- ---- the files of zones

-- how long the file of a new zone is
abbrev pub new_length : Shape → Kind → ℕ
new_length shape Conventional = BLOCK_SIZE * shape.zone_blocks
new_length shape Sequential = 0

-- the bytes of a new zone
abbrev pub new_bytes : Geometry → ℕ → List ℕ
new_bytes geo z = (fresh_zone geo.shape (kind_of geo z)).bytes

-- the name of the file of a zone before this one
pub record IsZoneBefore (geo : Geometry) (z : ℕ) (name : Name) : Type 0 where
  pub k : ℕ
  pub before : k < z
  pub is : name ≡ zone_name (kind_of geo k) k

-- The files of the zones before this one are there, at rest with the bytes of new zones, and there is no other file.
pub record HasZonesBefore (geo : Geometry) (z : ℕ) (d : Directory) : Type 0 where
  pub zones : (k : ℕ) → k < z → file_at d (zone_name (kind_of geo k) k) ≡ Some (at_rest (new_bytes geo k))
  pub others : (name : Name) → IsSome (file_at d name) → IsZoneBefore geo z name

-- where there is a file `device`, the file of each zone is there with the bytes of a new zone
pub record HasDeviceLast (geo : Geometry) (image : Contents) : Type 0 where
  pub zones : IsSome (bytes_at image device_name) → (z : ℕ) → z < geo.zones → bytes_at image (zone_name (kind_of geo z) z) ≡ Some (new_bytes geo z)

-- Calls that make files of a device. At Ok the directory has P. A stop meanwhile, whatever the answer, leaves no file
-- `device` before the files of all zones.
pub record MakesFiles (geo : Geometry) (result : Result (Unit {0}) CreateError) (old new : FilesState) (P : Directory → Type 0) : Type 0 where
  pub cause : IsCaused result old new
  pub plain : IfErr result (λ e. IsTrue (is_failure e))
  pub done : OnOk result (Holds new P)
  pub stops : LeavesOnly old.history new.history (HasDeviceLast geo)
