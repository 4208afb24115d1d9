-- A directory opened as a device. (own)
use Rattle.std.specs.Prelude.{◌≡◌, ℕ, ◌<◌, ◌≤◌, false, List, length, replicate, slice_index_or, Option, Some, None, Ok, if◌then◌else◌, ⊤}
use Rattle.zn_base.specs.Causes.{Rose}
use Rattle.zn_truth.specs.declared.Kind.{Kind}
use Rattle.zn_truth.specs.declared.ZoneInfo.{ZoneInfo}
use Rattle.zn_truth.specs.Truth.{zone_at, is_sequential}
use Rattle.zn_truth.specs.World.{calm}
use Rattle.zn_zone.specs.Facts.{reported}
use Rattle.zn_zone.specs.Machine.{Machine, facts, geometry_in}
use Rattle.zn_device.specs.States.{DeviceState}
use Rattle.zn_stand.specs.declared.numbers.Geometry.{Geometry}
use Rattle.zn_stand.specs.Directory.{Directory, Contents, contents, rested}
use Rattle.zn_stand.specs.ZoneNames.{kind_of, kinds_of, geometry_of_device}
use Rattle.zn_stand.specs.AtRest.{at_rest, IsRestedZone}
use Rattle.zn_files.specs.States.{FilesState, directory, is_told}
use Rattle.zn_backing.specs.declared.error.OpenError.{OpenError}
use Rattle.zn_backing.specs.declared.error.OpenError.TheVariants.{Fault}
use Rattle.zn_backing.specs.Steps.{IsCauseIn}
use Rattle.zn_backing.specs.Looks.{no_info}
use Rattle.zn_backing.specs.Actives.{Finds, IsCause}
use Rattle.zn_zloop.specs.declared.kept.Kept.{Kept}
use Rattle.zn_zloop.specs.declared.kept.Mark.TheVariants.{Clean}

-- ---- what is kept of a device at rest

-- how many blocks of a zone have a flag: all that a conventional one holds
abbrev pub flagged : Kind → ℕ → ℕ
flagged kind held = if is_sequential kind then 0 else held

-- what is kept of a zone that holds so many blocks, all of them durable, and whose file didn't change
pub record IsDurable (kind : Kind) (held : ℕ) (kept : Kept) : Type 0 where
  pub durable : kept.durable ≡ held
  pub unflushed : kept.unflushed.items ≡ replicate (flagged kind held) false
  pub mark : kept.mark ≡ Clean

-- the same of so many zones, by what was found of each
pub record AreDurable (geo : Geometry) (infos : List ZoneInfo) (n : ℕ) (kepts : List Kept) : Type 0 where
  pub count : length kepts ≡ n
  pub each : (z : ℕ) (other : Kept) → z < n → IsDurable (kind_of geo z) (slice_index_or infos z no_info).held (slice_index_or kepts z other)

-- A device that was found begins so: the machine has the conditions and lengths that were found, and all is durable.
pub record Begins (geo : Geometry) (infos : List ZoneInfo) (m : Machine) (kepts : List Kept) : Type 0 where
  pub told : facts m ≡ reported geo.shape (kinds_of geo) infos
  pub numbers : geometry_in m ≡ geometry_of_device geo
  pub kept : AreDurable geo infos geo.zones kepts

-- a directory at rest, with the device that was found
pub record HoldsFound (d : Directory) (geo : Geometry) (infos : List ZoneInfo) : Type 0 where
  pub c : Contents
  pub is : d ≡ rested c
  pub finds : Finds c geo infos

-- the same where contents are told
abbrev pub HoldsFoundWhereTold : Option Directory → Geometry → List ZoneInfo → Type 0
HoldsFoundWhereTold None geo infos = ⊤
HoldsFoundWhereTold (Some d) geo infos = HoldsFound d geo infos

-- ---- what a caller is told

-- A directory was opened as this device, which isn't spoilt, has power, and no fault waits. All that it holds is durable,
-- and no zone is explicitly open. No fault was counted. Where contents are told, it is the device at rest that they stand
-- for; and each file was synced, and holds what it held.
pub record Opened (device : DeviceState) (old new : FilesState) : Type 0 where
  pub unspoilt : device.spoilt ≡ false
  pub calm : device.world ≡ calm device.world.truth
  pub zones : (z : ℕ) → z < length device.world.truth.zones → IsRestedZone (zone_at device.world.truth z)
  pub breaks : device.breaks ≡ new.faults
  pub count : new.faults ≡ old.faults
  pub told : is_told new ≡ is_told old
  pub truth : (d : Directory) → directory old ≡ Some d → at_rest (contents d) ≡ Ok device.world.truth
  pub rest : (d : Directory) → directory old ≡ Some d → directory new ≡ Some (rested (contents d))

-- A directory wasn't opened. A fault is told only where the count rose. Where contents are told, any other cause but want
-- of memory is the first one why they stand for no device; and each file was synced, and holds what it held.
pub record LeftShut (why : OpenError) (old new : FilesState) : Type 0 where
  pub later : old.faults ≤ new.faults
  pub fault : why ≡ Fault → Rose old.faults new.faults
  pub told : is_told new ≡ is_told old
  pub cause : (d : Directory) → directory old ≡ Some d → IsCauseIn (contents d) why
  pub rest : (d : Directory) → directory old ≡ Some d → IsCause why → directory new ≡ Some (rested (contents d))
