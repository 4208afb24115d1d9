-- What a clause sees of a volume.
use Rattle.std.specs.Prelude.{◌≡◌, ℕ, ◌*◌, ◌<◌, ◌≤◌, true, false, List, length}
use Rattle.zn_truth.specs.declared.limits.TheConstants.{BLOCK_SIZE}
use Rattle.zn_truth.specs.World.{World, geometry_of}
use Rattle.zn_device.specs.States.{DeviceState}
use Rattle.zn_model.specs.ZoneFiles.{files_of}
use Rattle.zn_model.specs.Volume.{Mounted, Volume, Inodes, Live, Request, file_at, shown_at}
use Rattle.zn_handle.specs.declared.handles.Open.{Open}
use Rattle.zn_handle.specs.HandleState as handles
use Rattle.zn_inode.specs.Sizes.{IsWithinRoom}
use Rattle.zn_io.specs.Files.{IsFile, shape_of}
use Rattle.zn_volume.specs.InFlight.{AreInFlight}

-- A volume and its device.
pub record VolumeState : Type 0 where
  pub device : DeviceState
  pub volume : Volume

-- what is mounted: the world of the device, and the volume
abbrev pub mounted_in : VolumeState → Mounted
mounted_in state = record { world = state.device.world; volume = state.volume }

-- what holds of each live handle that is open so: on this file, and in this mode
abbrev pub ForLive : Open → (Live → Type 0) → Type 0
ForLive on P = (live : Live) → live.file ≡ on.file → live.mode ≡ on.mode → P live

-- only a sequential file is held open
pub record IsHeldSequential (inodes : Inodes) : Type 0 where
  pub file : (f : ℕ) → f < length (files_of inodes.layout) → (shown_at inodes f).held_open ≡ true → (file_at inodes f).seq ≡ true

-- what the parts of a volume keep to: its device, files, handles, requests that wait, and how much room there is for
-- reports and for blocks
pub record Agrees (world : World) (inodes : Inodes) (seen : handles.HandleState) (queued : List Request)
    (infos scratch : ℕ) : Type 0 where
  pub files : (f : ℕ) → f < length (files_of inodes.layout) → IsFile (geometry_of world) (file_at inodes f)
  pub conventional : (f : ℕ) → f < length inodes.layout.cnv → (file_at inodes f).seq ≡ false
  pub sequential : (f : ℕ) → length inodes.layout.cnv ≤ f → f < length (files_of inodes.layout) → (file_at inodes f).seq ≡ true
  pub single : (f : ℕ) → f < length (files_of inodes.layout) → (file_at inodes f).seq ≡ true → (file_at inodes f).zones ≡ 1
  pub shape : inodes.shape ≡ shape_of world
  pub shown : length inodes.shown ≡ length (files_of inodes.layout)
  pub sizes : IsWithinRoom inodes
  pub held : IsHeldSequential inodes
  pub flight : AreInFlight inodes queued
  pub cnv : seen.cnv ≡ length inodes.layout.cnv
  pub known : seen.files ≡ length (files_of inodes.layout)
  pub places : infos ≡ length (geometry_of world).kinds
  pub blocks : BLOCK_SIZE * 257 ≤ scratch
