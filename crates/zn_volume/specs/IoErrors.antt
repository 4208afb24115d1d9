-- Where a call on a file answers `io-error`. (own)
use Rattle.std.specs.Prelude.{◌≡◌, ◌≢◌, ◌⊎◌, ℕ, ◌+◌, ◌*◌, ◌<◌, true, false, List, ◌∷◌, ◌++◌, Result, IsErrOf, IfSome}
use Rattle.zn_base.specs.Causes.{Rose}
use Rattle.zn_truth.specs.declared.limits.TheConstants.{BLOCK_SIZE}
use Rattle.zn_truth.specs.Truth.{Truth, zone_at, is_good}
use Rattle.zn_device.specs.States.{DeviceState}
use Rattle.zn_model.specs.declared.answers.Refusal.{Refusal}
use Rattle.zn_model.specs.declared.answers.Refusal.TheVariants.{IoError}
use Rattle.zn_model.specs.declared.files.FileZones.{FileZones}
use Rattle.zn_model.specs.declared.files.Shown.{Shown}
use Rattle.zn_model.specs.declared.answers.Outcome.TheVariants.{IoError as had_io_error}
use Rattle.zn_model.specs.declared.handles.Done.{Done}
use Rattle.zn_model.specs.declared.handles.Handle.{Handle}
use Rattle.zn_model.specs.Volume.{Inodes, Request, live_at, file_at, shown_at}
use Rattle.zn_volume.specs.VolumeState.{VolumeState}

-- a zone of the file isn't good
pub record HasBadZone (t : Truth) (file : FileZones) : Type 0 where
  pub zone : ℕ
  pub inside : zone < file.zones
  pub bad : is_good (zone_at t (file.first + zone)).cond ≡ false

-- the zone of a sequential file holds another length than the file shows
pub record HoldsOther (t : Truth) (file : FileZones) (shown : Shown) : Type 0 where
  pub sequential : file.seq ≡ true
  pub other : BLOCK_SIZE * (zone_at t file.first).held ≢ shown.size

-- there was a fault meanwhile, or the file's zones don't let it be read or written as it shows
abbrev pub HasIoCause : FileZones → Shown → DeviceState → DeviceState → Type 0
HasIoCause file shown old new =
    Rose old.faults new.faults ⊎ (HasBadZone old.world.truth file ⊎ HoldsOther old.world.truth file shown)

-- `io-error` has such a cause in this file
pub record IoErrorCause {X : Type 0} (result : Result X Refusal) (inodes : Inodes) (f : ℕ) (old new : DeviceState) : Type 0 where
  pub cause : IsErrOf result IoError → HasIoCause (file_at inodes f) (shown_at inodes f) old new

-- the same of a call through a handle, where that is live
abbrev pub IoErrorThrough : {X : Type 0} → Handle → Result X Refusal → VolumeState → VolumeState → Type 0
IoErrorThrough h result old new =
    IfSome (live_at old.volume.handles h) (λ live. IoErrorCause result old.volume.inodes live.file old.device new.device)

-- The outcome that a call put first behind those that were there is the oldest request's, and an input or output error
-- only with such a cause in that request's file.
pub record IoOutcomeCause (old new : VolumeState) : Type 0 where
  pub cause : (oldest : Request) (waiting : List Request) (first : Done) (others : List Done) → old.volume.queue.queued ≡ oldest ∷ waiting
      → new.volume.queue.finished ≡ old.volume.queue.finished ++ first ∷ others → first.outcome ≡ had_io_error
      → HasIoCause (file_at old.volume.inodes oldest.file) (shown_at old.volume.inodes oldest.file) old.device new.device
