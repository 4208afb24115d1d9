-- A device and the directory that it lies in. (own)
use Rattle.std.specs.Prelude.{◌≡◌, false, Some}
use Rattle.zn_device.specs.States.{DeviceState}
use Rattle.zn_stand.specs.Directory.{Directory, contents}
use Rattle.zn_stand.specs.Standing.{StandsFor}
use Rattle.zn_files.specs.States.{FilesState, directory, is_told}

-- The device breaks where a call on its files fails. Unless it is spoilt, it tells its bytes where the directory's
-- contents are told, and these stand for what it holds.
pub record LiesIn (device : DeviceState) (files : FilesState) : Type 0 where
  pub breaks : device.breaks ≡ files.faults
  pub told : device.spoilt ≡ false → device.world.truth.told ≡ is_told files
  pub stands : (d : Directory) → device.spoilt ≡ false → directory files ≡ Some d
      → StandsFor (contents d) device.world.truth
