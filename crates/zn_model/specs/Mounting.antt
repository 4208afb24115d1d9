-- The calls that mount and unmount. ("filesystems/zonefs"; the commands that a mount issues are own)
use Rattle.std.specs.Prelude.{Bool, false, ◌&&◌, not, ◌==◌, nat_lt, ℕ, List, [], length, take, drop, map, filter, if◌then◌else◌, Option, Some, None, Result, Ok, Err}
use Rattle.std.specs.List.{range_with_len}
use Rattle.zn_truth.specs.declared.limits.TheConstants.{BLOCK_SIZE}
use Rattle.zn_truth.specs.declared.DevError.{DevError}
use Rattle.zn_truth.specs.declared.DevError.TheVariants.{PowerLost, Broken, Memory}
use Rattle.zn_truth.specs.declared.ZoneOp.TheVariants.{Close}
use Rattle.zn_truth.specs.Truth.{Truth, geometry, zone_at, is_sequential, is_good}
use Rattle.zn_truth.specs.Orders.{Order, ReadAt, Manage, Reply}
use Rattle.zn_truth.specs.OrderLists.{issue_all}
use Rattle.zn_truth.specs.World.{World, Outcome, issue}
use Rattle.zn_model.specs.declared.files.MountOpts.{MountOpts}
use Rattle.zn_model.specs.declared.answers.MountError.{MountError}
use Rattle.zn_model.specs.declared.answers.MountError.TheVariants.{NotFormatted, IoError, PowerLost as no_power, Broken as is_broken, Memory as no_memory}
use Rattle.zn_model.specs.declared.answers.SuperError.{SuperError}
use Rattle.zn_model.specs.declared.answers.SuperError.TheVariants.{BadMagic, CopiesDiffer, BadVersion, BadField}
use Rattle.zn_model.specs.declared.answers.Why.{Why}
use Rattle.zn_model.specs.declared.answers.Why.TheVariants.{BadMagic as why_magic, CopiesDiffer as why_copies, BadVersion as why_version, BadField as why_field, Zone0NotFull}
use Rattle.zn_model.specs.declared.answers.Refusal.{Refusal}
use Rattle.zn_model.specs.declared.answers.Refusal.TheVariants.{Busy, PowerLost as refused_power}
use Rattle.zn_model.specs.SuperBlock.{SuperBlock, decoded}
use Rattle.zn_model.specs.ZoneFiles.{Layout, layout_of, files_of}
use Rattle.zn_model.specs.ShownStates.{mounted_shown}
use Rattle.zn_model.specs.Volume.{Volume, Mounted, Inodes, Handles, Queue}
use Rattle.zn_model.specs.Given.{copies_in}
use Rattle.zn_model.specs.Looks.{report_all}

-- ---- mount

-- what a mount answers, and the device that it leaves
pub record MountAnswer : Type 0 where
  pub reply : Result Volume MountError
  pub world : World

-- a failure of the device, as a mount tells it
abbrev pub mount_error_of : DevError → MountError
mount_error_of PowerLost = no_power
mount_error_of Broken = is_broken
mount_error_of Memory = no_memory
mount_error_of error = IoError

-- what is wrong with the super block, as a mount tells it
abbrev pub why_of : SuperError → Why
why_of BadMagic = why_magic
why_of (CopiesDiffer place) = why_copies place
why_of (BadVersion version) = why_version version
why_of (BadField place) = why_field place

-- the super block's zone is sequential and not full
abbrev pub is_zone0_unfull : Truth → Bool
is_zone0_unfull t = is_sequential (zone_at t 0).kind && not ((zone_at t 0).held == t.shape.zone_capacity)

-- what the two copies of the super block say, one behind the other
abbrev pub super_block_of : List ℕ → Result SuperBlock SuperError
super_block_of copies = decoded (take BLOCK_SIZE copies) (drop BLOCK_SIZE copies)

-- the closes of the good zones that are explicitly open, in rising order
abbrev pub closes : Truth → List Order
closes t = map (λ z. Manage z Close) (filter (λ z. is_good (zone_at t z).cond && (zone_at t z).explicit) (range_with_len 0 (length t.zones)))

-- no handle is live, and the next generation is 0
abbrev pub fresh_handles : Handles
fresh_handles = record { live = []; opened = 0 }

-- no request waits or is to be reaped, and the next ticket is 1
abbrev pub fresh_queue : Queue
fresh_queue = record { queued = []; finished = []; last_ticket = 0 }

-- the files, with what a mount shows of each; the file system isn't read-only
abbrev pub fresh_inodes : Truth → Layout → Inodes
fresh_inodes t layout = record { layout = layout; shape = t.shape; shown = map (mounted_shown t) (files_of layout); read_only = false }

-- a volume as a mount leaves it: every file shows what it holds, nothing is open or queued
unfoldable pub fresh_volume : Truth → SuperBlock → MountOpts → Volume
fresh_volume t super_block opts = record {
  super_block = super_block;
  policy = opts.policy;
  explicit_open = opts.explicit_open;
  inodes = fresh_inodes t (layout_of (geometry t).kinds super_block.aggr_cnv);
  handles = fresh_handles;
  queue = fresh_queue;
}

-- a failure of the device, and the device that is left
abbrev pub mount_failed : DevError → World → MountAnswer
mount_failed error w = record { reply = Err (mount_error_of error); world = w }

-- why the device doesn't count as formatted, and the device that is left
abbrev pub not_formatted : Why → World → MountAnswer
not_formatted why w = record { reply = Err (NotFormatted why); world = w }

-- after the closes
abbrev pub mount_closed : Outcome → Reply → Volume → MountAnswer
mount_closed closed (Ok unit) volume = record { reply = Ok volume; world = closed.world }
mount_closed closed (Err error) volume = mount_failed error closed.world

-- what the copies say
abbrev pub mount_decoded : Result SuperBlock SuperError → World → Truth → MountOpts → MountAnswer
mount_decoded (Err error) w t opts = not_formatted (why_of error) w
mount_decoded (Ok super_block) w t opts = mount_closed (issue_all w (closes t)) (issue_all w (closes t)).reply (fresh_volume t super_block opts)

-- after the read of the copies
abbrev pub mount_read : List ℕ → Outcome → Reply → Truth → MountOpts → MountAnswer
mount_read given copies (Ok unit) t opts = mount_decoded (super_block_of (copies_in t given)) copies.world t opts
mount_read given copies (Err error) t opts = mount_failed error copies.world

-- after the report
abbrev pub mount_reported : List ℕ → Outcome → Reply → Truth → MountOpts → MountAnswer
mount_reported given reported (Err error) t opts = mount_failed error reported.world
mount_reported given reported (Ok unit) t opts =
    if is_zone0_unfull t then not_formatted Zone0NotFull reported.world
    else mount_read given (issue reported.world (ReadAt 0 0 2)) (issue reported.world (ReadAt 0 0 2)).reply t opts

-- Mounts: a report of all zones; a read of blocks 0 and 1 of zone 0, as one; a close of each good zone that
-- is explicitly open. The first failure ends it. `given` is what the read gave, and counts only where the device
-- doesn't tell its bytes.
unfoldable pub mount_call : List ℕ → World → MountOpts → MountAnswer
mount_call given w opts = mount_reported given (issue w (report_all w.truth)) (issue w (report_all w.truth)).reply w.truth opts

-- ---- unmount

-- What refuses an unmount: no power, or a handle that is open. Else the volume is dropped, with outcomes that
-- aren't reaped, and no command is issued.
unfoldable pub unmount_refusal : Mounted → Option Refusal
unmount_refusal m =
    if not m.world.powered then Some refused_power
    else if nat_lt 0 (length m.volume.handles.live) then Some Busy
    else None
