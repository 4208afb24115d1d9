-- What zones have to do with files. (own)
use Rattle.std.specs.Prelude.{◌≡◌, ℕ, ◌*◌, true, List, Some, IfOk}
use Rattle.zn_truth.specs.declared.limits.TheConstants.{BLOCK_SIZE}
use Rattle.zn_truth.specs.declared.Cond.TheVariants.{Good}
use Rattle.zn_truth.specs.Truth.{Truth, zone_at}
use Rattle.zn_truth.specs.World.{World}
use Rattle.zn_model.specs.declared.files.MountOpts.{MountOpts}
use Rattle.zn_model.specs.Mounting.{mount_call}
use Rattle.zn_model.specs.Volume.{Volume, file_at, shown_at}
use Rattle.zn_lines.specs.Table.{Table}
use Rattle.zn_remains.specs.Laws.{IsSession}
use Rattle.zn_remains.specs.Remaining.{IsSequentialZone}

-- a sequential file is one sequential zone of the device
pub record IsOneZone (t : Truth) (v : Volume) (f : ℕ) : Type 0 where
  pub one : (file_at v.inodes f).zones ≡ 1
  pub zone : IsSequentialZone t (file_at v.inodes f).first

-- a sequential file whose zone is good shows what the zone holds
abbrev pub ShowsZone : Truth → Volume → ℕ → Type 0
ShowsZone t v f = (zone_at t (file_at v.inodes f).first).cond ≡ Good → (shown_at v.inodes f).size ≡ BLOCK_SIZE * (zone_at t (file_at v.inodes f).first).held

-- Each sequential file is one zone, so that what is said of zones is said of files: in whatever session a volume is mounted,
-- and in the volume that a mount of a device makes, which shows of each such file what its zone holds.
pub record FilesAreZones : Type 0 where
  pub mounted : (table : Table) (v : Volume) (f : ℕ) → IsSession table → table.volume ≡ Some v → (file_at v.inodes f).seq ≡ true → IsOneZone table.world.truth v f
  pub shown : (given : List ℕ) (w : World) (opts : MountOpts) → IfOk (mount_call given w opts).reply (λ v. (f : ℕ) → (file_at v.inodes f).seq ≡ true → ShowsZone w.truth v f)
