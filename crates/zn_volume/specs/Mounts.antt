-- What a mount and an unmount owe. (own)
use Rattle.std.specs.Prelude.{◌≡◌, ◌⊎◌, ◌↔◌, ℕ, ◌<◌, ◌≤◌, true, false, List, All, Ok, Err}
use Rattle.zn_base.specs.Causes.{Rose}
use Rattle.zn_truth.specs.Truth.{Truth, zone_at, is_offline}
use Rattle.zn_truth.specs.World.{geometry_of}
use Rattle.zn_device.specs.States.{DeviceState}
use Rattle.zn_model.specs.declared.answers.MountError.{MountError}
use Rattle.zn_model.specs.declared.answers.MountError.TheVariants.{NotFormatted, IoError, PowerLost, Broken, Memory}
use Rattle.zn_model.specs.declared.answers.Why.{Why}
use Rattle.zn_model.specs.declared.files.MountOpts.{MountOpts}
use Rattle.zn_model.specs.Mounting.{mount_call, fresh_volume}
use Rattle.zn_volume.specs.Causes.{AreLeft}
use Rattle.zn_volume.specs.MountSteps.{found_in}
use Rattle.zn_volume.specs.VolumeState.{VolumeState}

-- the super block's zone is offline
abbrev pub IsZone0Offline : Truth → Type 0
IsZone0Offline t = is_offline (zone_at t 0).cond ≡ true

-- A mount that is done, where the read of the super block gave these bytes: the volume and the world are the mount's
-- answer, and all else of the device stays. The volume is a fresh one, its super block is the device's, the power is
-- on, and the geometry stays.
pub record IsMounted (opts : MountOpts) (old : DeviceState) (new : VolumeState) : Type 0 where
  pub given : List ℕ
  pub bytes : All (λ byte. byte < 256) given
  pub answer : mount_call given old.world opts ≡ record { reply = Ok new.volume; world = new.device.world }
  pub device : new.device ≡ record old { world = new.device.world }
  pub fresh : new.volume ≡ fresh_volume old.world.truth new.volume.super_block opts
  pub formatted : found_in given old.world.truth ≡ Ok new.volume.super_block
  pub powered : new.device.world.powered ≡ true
  pub geometry : geometry_of new.device.world ≡ geometry_of old.world

-- A mount that fails is the definition's answer, unless the device is spoilt, or memory was wanting: then that was
-- before the first command, and the device is as it was. A device that isn't formatted stays as it was. `io-error`
-- comes only where a fault did or the super block's zone is offline, `Broken` only where the count of breaks rose with
-- the power on, and a loss of power is told exactly where the power is off. No count falls, and that of faults rises
-- only where a fault that waited was used up.
pub record MountCause (opts : MountOpts) (why : MountError) (old new : DeviceState) : Type 0 where
  pub given : List ℕ
  pub bytes : All (λ byte. byte < 256) given
  pub answer : new.spoilt ≡ false → (why ≡ Memory → ⊥)
      → mount_call given old.world opts ≡ record { reply = Err why; world = new.world }
  pub wanting : new.spoilt ≡ false → why ≡ Memory → new ≡ old
  pub spoiling : new.spoilt ≡ true → (why ≡ Broken) ⊎ (why ≡ Memory)
  pub free : old.takes_memory ≡ false → why ≡ Memory → new ≡ old
  pub not_formatted : (cause : Why) → why ≡ NotFormatted cause → found_in given old.world.truth ≡ Err cause
  pub untouched : (cause : Why) → why ≡ NotFormatted cause → new ≡ old
  pub io_error : why ≡ IoError → Rose old.faults new.faults ⊎ IsZone0Offline old.world.truth
  pub lost : (why ≡ Memory → ⊥) → (why ≡ PowerLost) ↔ (new.world.powered ≡ false)
  pub memory : new.takes_memory ≡ old.takes_memory
  pub keeps : new.keeps_conditions ≡ old.keeps_conditions
  pub later : old.faults ≤ new.faults
  pub no_fewer : old.breaks ≤ new.breaks
  pub broken : why ≡ Broken → Rose old.breaks new.breaks
  pub whole : new.spoilt ≡ false → new.breaks ≡ old.breaks
  pub powered : why ≡ Broken → old.world.powered ≡ true
  pub still_powered : why ≡ Broken → new.world.powered ≡ true
  pub left : new.spoilt ≡ false → AreLeft new.world.pending old.world.pending
  pub no_fault : new.spoilt ≡ false → new.world.pending ≡ old.world.pending → new.faults ≡ old.faults
  pub geometry : geometry_of new.world ≡ geometry_of old.world
