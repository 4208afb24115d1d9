-- When a volume's call answers that the device is broken or that memory is wanting, and what its counts do. (own)
use Rattle.std.specs.Prelude.{◌≡◌, ◌<◌, ◌≤◌, ◌⊎◌, true, false, List, length, Result, Err, IsErrOf}
use Rattle.zn_base.specs.Causes.{Rose}
use Rattle.zn_truth.specs.declared.DevError.{DevError}
use Rattle.zn_truth.specs.declared.FaultSpec.{FaultSpec}
use Rattle.zn_truth.specs.World.{geometry_of}
use Rattle.zn_model.specs.declared.answers.Refusal.{Refusal}
use Rattle.zn_model.specs.declared.answers.Refusal.TheVariants.{IoError, Broken, Memory}
use Rattle.zn_model.specs.Recovery.{is_passed_on, refusal_of}
use Rattle.zn_volume.specs.Means.{spoils}
use Rattle.zn_device.specs.States.{DeviceState}

-- faults that wait are used up, and none comes
abbrev pub AreLeft : List FaultSpec → List FaultSpec → Type 0
AreLeft after before = (after ≡ before) ⊎ (length after < length before)

-- The device is spoilt exactly where the call answers so. `Broken` comes only where the count of breaks rose with
-- the power on, and `Memory` only over a device whose commands take some. No count falls, and that of faults rises
-- only where a fault that waited was used up. The geometry stays.
pub record CallCause {X : Type 0} (result : Result X Refusal) (old new : DeviceState) : Type 0 where
  pub spoilt : new.spoilt ≡ spoils result
  pub memory : new.takes_memory ≡ old.takes_memory
  pub keeps : new.keeps_conditions ≡ old.keeps_conditions
  pub free : old.takes_memory ≡ false → IsErrOf result Memory → ⊥
  pub later : old.faults ≤ new.faults
  pub no_fewer : old.breaks ≤ new.breaks
  pub broken : IsErrOf result Broken → Rose old.breaks new.breaks
  pub whole : spoils result ≡ false → new.breaks ≡ old.breaks
  pub powered : IsErrOf result Broken → old.world.powered ≡ true
  pub still_powered : IsErrOf result Broken → new.world.powered ≡ true
  pub left : spoils result ≡ false → AreLeft new.world.pending old.world.pending
  pub no_fault : spoils result ≡ false → new.world.pending ≡ old.world.pending → new.faults ≡ old.faults
  pub geometry : geometry_of new.world ≡ geometry_of old.world

-- What follows a failed command, and the refusal that is told then: a failure that is passed on is told as it is and
-- leaves all as it was, and after any other comes a report, with the causes of a call. `io-error` is told only where the
-- command's failure is one.
pub record RecoveryCause (error : DevError) (refusal : Refusal) (old new : DeviceState) : Type 0 where
  pub passed_on : is_passed_on error ≡ true → refusal ≡ refusal_of error
  pub still : is_passed_on error ≡ true → new ≡ old
  pub io_error : refusal ≡ IoError → refusal_of error ≡ IoError
  pub caused : is_passed_on error ≡ false → CallCause {X = Unit {0}} (Err refusal) old new
