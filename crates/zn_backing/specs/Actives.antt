-- Which zones of a directory are active, and what a look finds as a whole. (own)
use Rattle.std.specs.Prelude.{◌≡◌, ℕ, ◌+◌, ◌<◌, ◌≤◌, slice_index_or, IsSome, OnOk, Bool, List, [], ◌∷◌, length, drop, Option, Some, Result, Ok, Err, IsErrOf, IfOk, IfErr, if◌then◌else◌}
use Rattle.std.specs.Option.{option_map}
use Rattle.zn_base.specs.Causes.{Rose}
use Rattle.zn_truth.specs.declared.ZoneInfo.{ZoneInfo}
use Rattle.zn_truth.specs.Truth.{Truth, is_active, geometry, info_at}
use Rattle.zn_truth.specs.Limits.{IsWithinLimits}
use Rattle.zn_zone.specs.Facts.{bare_zone, reported, IsStart}
use Rattle.zn_stand.specs.declared.numbers.Geometry.{Geometry}
use Rattle.zn_stand.specs.Directory.{Directory, Contents, contents, rested}
use Rattle.zn_stand.specs.ZoneNames.{geometry_of_device, kinds_of}
use Rattle.zn_stand.specs.AtRest.{at_rest}
use Rattle.zn_files.specs.States.{FilesState, directory, is_told}
use Rattle.zn_backing.specs.declared.error.OpenError.{OpenError}
use Rattle.zn_backing.specs.declared.error.OpenError.TheVariants.{Fault}
use Rattle.zn_backing.specs.Looks.{started_zone, no_info}
use Rattle.zn_backing.specs.Failures.{cause_of}
use Rattle.zn_backing.specs.Steps.{IsCauseIn}

-- a zone with what a report tells of it is active
abbrev pub is_partly : Geometry → ℕ → ZoneInfo → Bool
is_partly geo z info = is_active geo.shape (bare_zone (started_zone geo z info))

-- how many of the zones from a number on are
abbrev pub active_from : Geometry → ℕ → List ZoneInfo → ℕ
active_from geo z [] = 0
active_from geo z (info ∷ infos) = (if is_partly geo z info then 1 else 0) + active_from geo (z + 1) infos

-- the zones that are left to be counted, and those that are
pub record AreCounted (geo : Geometry) (infos : List ZoneInfo) (z count : ℕ) : Type 0 where
  pub all : count + active_from geo z (drop z infos) ≡ active_from geo 0 infos
  pub most : count ≤ z

-- where a machine of conditions may begin with what was found
pub record IsStartOf (geo : Geometry) (infos : List ZoneInfo) : Type 0 where
  pub within : IsWithinLimits (geometry_of_device geo)
  pub count : length infos ≡ geo.zones
  pub start : IsStart (reported geo.shape (kinds_of geo) infos)

-- what was found is the device at rest that the contents stand for
pub record Finds (c : Contents) (geo : Geometry) (infos : List ZoneInfo) : Type 0 where
  pub t : Truth
  pub rest : at_rest c ≡ Ok t
  pub geometry : geometry t ≡ geometry_of_device geo
  pub told : (z : ℕ) → z < geo.zones → slice_index_or infos z no_info ≡ info_at t z

-- the error is a cause that lies in the directory
abbrev pub IsCause : OpenError → Type 0
IsCause e = IsSome (cause_of e)

-- What a look at a directory owes. A fault is answered only where the count rose. Where contents are told, what is found
-- is the device at rest, or the cause is the first one; and each file was synced, and holds what it held.
pub record Looks {T : Type 0} (result : Result T OpenError) (old new : FilesState) (P : Contents → T → Type 0) : Type 0 where
  pub later : old.faults ≤ new.faults
  pub fault : IsErrOf result Fault → Rose old.faults new.faults
  pub kept : OnOk result (new.faults ≡ old.faults)
  pub told : is_told new ≡ is_told old
  pub found : (d : Directory) → directory old ≡ Some d → IfOk result (P (contents d))
  pub cause : (d : Directory) → directory old ≡ Some d → IfErr result (IsCauseIn (contents d))
  pub rest : (d : Directory) → directory old ≡ Some d → OnOk result (directory new ≡ Some (rested (contents d)))
  pub rest_too : (d : Directory) → directory old ≡ Some d → IfErr result (λ e. IsCause e → directory new ≡ Some (rested (contents d)))
