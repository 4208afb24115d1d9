-- The steps of a mount: what is prepared before the first command, what the super block's zone tells, and which
-- commands are issued. (own)
use Rattle.std.specs.Prelude.{◌≡◌, ℕ, ◌<◌, Bool, true, false, ◌&&◌, List, [], ◌∷◌, ◌++◌, length, All, Result, Ok, Err, if◌then◌else◌, slice_index_or}
use Rattle.std.specs.List.{flat_map, range_with_len}
use Rattle.zn_truth.specs.declared.Cond.TheVariants.{Offline}
use Rattle.zn_truth.specs.declared.Kind.{Kind}
use Rattle.zn_truth.specs.declared.Shape.{Shape}
use Rattle.zn_truth.specs.declared.ZoneInfo.{ZoneInfo}
use Rattle.zn_truth.specs.declared.ZoneOp.TheVariants.{Close}
use Rattle.zn_truth.specs.Truth.{Truth, Geometry, is_good}
use Rattle.zn_truth.specs.Orders.{Order, ReadAt, Manage, Reply}
use Rattle.zn_truth.specs.Obeying.{IsZoneToManage}
use Rattle.zn_device.specs.States.{DeviceState, Ordered}
use Rattle.zn_model.specs.declared.answers.MountError.{MountError}
use Rattle.zn_model.specs.declared.answers.MountError.TheVariants.{NotFormatted}
use Rattle.zn_model.specs.declared.answers.SuperError.{SuperError}
use Rattle.zn_model.specs.declared.answers.Why.{Why}
use Rattle.zn_model.specs.declared.answers.Why.TheVariants.{Zone0NotFull}
use Rattle.zn_model.specs.SuperBlock.{SuperBlock}
use Rattle.zn_model.specs.ZoneFiles.{layout_of, files_of}
use Rattle.zn_model.specs.Volume.{Inodes}
use Rattle.zn_model.specs.Given.{copies_in}
use Rattle.zn_model.specs.Looks.{report_all}
use Rattle.zn_model.specs.Mounting.{mount_error_of, why_of, is_zone0_unfull, super_block_of, closes, fresh_handles}
use Rattle.zn_handle.specs.HandleState as handles

-- ---- what is prepared

-- The files of a device, of which nothing is shown yet, and no handles.
pub record ArePrepared (kinds : List Kind) (aggr : Bool) (zones : Shape) (inodes : Inodes)
    (seen : handles.HandleState) : Type 0 where
  pub layout : inodes.layout ≡ layout_of kinds aggr
  pub shape : inodes.shape ≡ zones
  pub writable : inodes.read_only ≡ false
  pub fresh : seen.handles ≡ fresh_handles
  pub cnv : seen.cnv ≡ length inodes.layout.cnv
  pub known : seen.files ≡ length (files_of inodes.layout)

-- ---- the super block

-- what the decoder answers, as a mount tells it
abbrev pub as_found : Result SuperBlock SuperError → Result SuperBlock Why
as_found (Ok super_block) = Ok super_block
as_found (Err error) = Err (why_of error)

-- The super block of a device, or why the device isn't formatted: the super block's zone is sequential and not full,
-- or else the first refusal of its two copies. `given` is what the read of them gave.
abbrev pub found_in : List ℕ → Truth → Result SuperBlock Why
found_in given t = if is_zone0_unfull t then Err Zone0NotFull else as_found (super_block_of (copies_in t given))

-- the read of the two copies
abbrev pub read_copies : Order
read_copies = ReadAt 0 0 2

-- the commands that look for the super block: a report of all zones, and the read, where zone 0 isn't found unfull
abbrev pub looks : Truth → List Order
looks t = report_all t ∷ (if is_zone0_unfull t then [] else read_copies ∷ [])

-- the closes, where a super block is found
abbrev pub closes_of : Result SuperBlock Why → Truth → List Order
closes_of (Ok super_block) t = closes t
closes_of (Err why) t = []

-- the commands of a mount
abbrev pub mount_orders : List ℕ → Truth → List Order
mount_orders given t = looks t ++ closes_of (found_in given t) t

-- the result of a mount's commands: the failure of the last, or what is found
abbrev pub result_of : Reply → Result SuperBlock Why → Result SuperBlock MountError
result_of (Err error) found = Err (mount_error_of error)
result_of (Ok unit) (Err why) = Err (NotFormatted why)
result_of (Ok unit) (Ok super_block) = Ok super_block

-- The result of these commands of a mount, issued one after another, on a device that held this as the mount began.
pub record Finds (orders : List ℕ → Truth → List Order) (result : Result SuperBlock MountError)
    (old new : DeviceState) : Type 0 where
  pub given : List ℕ
  pub bytes : All (λ byte. byte < 256) given
  pub reply : Reply
  pub done : Ordered (orders given old.world.truth) reply old new
  pub is : result ≡ result_of reply (found_in given old.world.truth)

-- ---- the closes

-- what stands for a zone that no report told
abbrev pub no_info : ZoneInfo
no_info = record { cond = Offline; held = 0; explicit = false }

-- whether a mount closes the zone: it is good and explicitly open
abbrev pub is_left_open : ZoneInfo → Bool
is_left_open info = is_good info.cond && info.explicit

-- its close, where it is so
abbrev pub close_of : ℕ → ZoneInfo → List Order
close_of z info = if is_left_open info then Manage z Close ∷ [] else []

-- the closes of so many zones of a report, from one on, in rising order
abbrev pub closes_from : List ZoneInfo → ℕ → ℕ → List Order
closes_from infos first n = flat_map (λ z. close_of z (slice_index_or infos z no_info)) (range_with_len first n)

-- only sequential zones are reported explicitly open
pub record AreClosable (g : Geometry) (infos : List ZoneInfo) : Type 0 where
  pub zones : (z : ℕ) → z < length infos → is_left_open (slice_index_or infos z no_info) ≡ true
      → IsZoneToManage g z
