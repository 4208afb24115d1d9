-- The calls that open and close a file. ("filesystems/zonefs", explicit-open; which opens and closes issue a
-- zone command is own: an open of a full file issues none, the last close issues one where the file is held
-- open)
use Rattle.std.specs.Prelude.{ℕ, Bool, true, false, ◌&&◌, not, ◌==◌, nat_le, List, length, if◌then◌else◌, Option, Some, None, Ok, Err}
use Rattle.zn_model.specs.declared.limits.TheConstants.{MAX_HANDLES}
use Rattle.zn_truth.specs.declared.DevError.{DevError}
use Rattle.zn_truth.specs.declared.DevError.TheVariants.{TooManyActive, TooManyOpen}
use Rattle.zn_truth.specs.declared.ZoneOp.TheVariants.{Open, Close}
use Rattle.zn_truth.specs.Truth.{is_reached}
use Rattle.zn_truth.specs.Orders.{Manage, Reply}
use Rattle.zn_truth.specs.World.{issue}
use Rattle.zn_model.specs.declared.handles.Handle.{Handle}
use Rattle.zn_model.specs.declared.handles.Mode.{Mode}
use Rattle.zn_model.specs.declared.handles.Who.{Who}
use Rattle.zn_model.specs.declared.answers.Refusal.{Refusal}
use Rattle.zn_model.specs.declared.answers.Refusal.TheVariants.{NoSuchFile, Denied, FileOffline, FileReadOnly, FsReadOnly, BadHandle, TooManyHandles, TooManyWriters, Busy}
use Rattle.zn_model.specs.ZoneFiles.{file_named}
use Rattle.zn_model.specs.Access.{writes, access}
use Rattle.zn_model.specs.Volume.{Volume, Mounted, Inodes, Live, file_at, capacity_at, shown_at, with_shown, live_at, with_live, without_live, next_handle, writers_of, wro, is_queued_through}
use Rattle.zn_model.specs.Recovery.{refusal_of, after_failure}
use Rattle.zn_model.specs.CallAnswers.{Answer, refused, answered, as_answer, unless, with_power, as_refused}

-- all files have one owner: the user and the group in the super block
abbrev pub owner_of : Volume → Who
owner_of v = record { uid = v.super_block.uid; gid = v.super_block.gid }

-- an open for writing of a sequential file without a writer, on a volume with explicit opens
abbrev pub begins_writing : Volume → ℕ → Mode → Bool
begins_writing v f mode = v.explicit_open && writes mode && (file_at v.inodes f).seq && (writers_of v.handles f == 0)

-- The checks of an open, once the file is found: room for a handle, the rights, access, and the limit on
-- sequential files open for writing.
unfoldable pub opening_refusal : ℕ → Volume → ℕ → Mode → Who → Option Refusal
opening_refusal max_open v f mode who =
    if nat_le MAX_HANDLES (length v.handles.live) then Some TooManyHandles
    else if writes mode && v.inodes.read_only then Some FsReadOnly
    else if not (shown_at v.inodes f).may_read then Some FileOffline
    else if writes mode && not (shown_at v.inodes f).may_write then Some FileReadOnly
    else if not (access v.super_block.perm (owner_of v) who mode) then Some Denied
    else if begins_writing v f mode && is_reached max_open (wro v) then Some TooManyWriters
    else None

-- ---- open

-- the files with one of them held open, or not; what else it shows stays
abbrev pub held_open : Inodes → ℕ → Bool → Inodes
held_open inodes f held = with_shown inodes f (record (shown_at inodes f) { held_open = held })

-- the handle is made
abbrev pub opened : Mounted → ℕ → ℕ → Mode → Answer Handle
opened m key f mode = answered (next_handle m.volume.handles key)
    (record m { volume = record m.volume { handles = with_live m.volume.handles (record { handle = next_handle m.volume.handles key; file = f; mode = mode }) } })

-- a limit that refuses the zone command changes nothing, and no report follows
abbrev pub is_limit : DevError → Bool
is_limit TooManyActive = true
is_limit TooManyOpen = true
is_limit error = false

-- what follows the zone command of an open, by its reply; a refused open makes no handle
abbrev pub after_open : Reply → Mounted → ℕ → ℕ → Mode → Answer Handle
after_open (Ok unit) m key f mode = opened (record m { volume = record m.volume { inodes = held_open m.volume.inodes f true } }) key f mode
after_open (Err error) m key f mode = if is_limit error then refused (refusal_of error) m else as_answer (after_failure false error m f)

-- a zone command, for the first writer of a file that isn't shown full; then the handle
unfoldable pub open_now : Mounted → ℕ → ℕ → Mode → Answer Handle
open_now m key f mode =
    let order = Manage (file_at m.volume.inodes f).first Open in
    if begins_writing m.volume f mode && not ((shown_at m.volume.inodes f).size == capacity_at m.volume.inodes f)
    then after_open (issue m.world order).reply (record m { world = (issue m.world order).world }) key f mode
    else opened m key f mode

-- a path of no file is refused; else the checks of an open, and then the open itself
abbrev pub open_by : Option ℕ → Mounted → ℕ → Mode → Who → Answer Handle
open_by None m key mode who = refused NoSuchFile m
open_by (Some f) m key mode who = unless (as_refused (opening_refusal m.world.truth.shape.max_open m.volume f mode who)) m (open_now m key f mode)

-- Opens the file of a path, in a mode, for someone. The handle's key is any that no live handle has.
unfoldable pub open_call : Mounted → ℕ → List ℕ → Mode → Who → Answer Handle
open_call m key path mode who = with_power m (open_by (file_named m.volume.inodes.layout path) m key mode who)

-- ---- close

-- what follows the zone command of a close, by its reply: the handle has ended all the same
abbrev pub after_close : Reply → Mounted → ℕ → Answer (Unit {0})
after_close (Ok unit) m f = answered tt m
after_close (Err error) m f = as_answer (after_failure false error m f)

-- the handle is not live any more
abbrev pub ended : Mounted → Handle → Mounted
ended m h = record m { volume = record m.volume { handles = without_live m.volume.handles h } }

-- the file is not held open any more
abbrev pub unheld : Mounted → ℕ → Mounted
unheld m f = record m { volume = record m.volume { inodes = held_open m.volume.inodes f false } }

-- The handle ends. Where it was the file's last writer and the file is held open, the file isn't any more,
-- and one zone command is issued.
unfoldable pub close_now : Mounted → Live → Answer (Unit {0})
close_now m live =
    let after = ended m live.handle in
    let order = Manage (file_at m.volume.inodes live.file).first Close in
    if writes live.mode && (writers_of after.volume.handles live.file == 0) && (shown_at m.volume.inodes live.file).held_open
    then after_close (issue m.world order).reply (record (unheld after live.file) { world = (issue m.world order).world }) live.file
    else answered tt after

-- a handle that isn't live is refused, and so is one through which a request waits
abbrev pub close_by : Option Live → Mounted → Answer (Unit {0})
close_by None m = refused BadHandle m
close_by (Some live) m = if is_queued_through m.volume.queue live.handle then refused Busy m else close_now m live

-- Ends a handle.
unfoldable pub close_call : Mounted → Handle → Answer (Unit {0})
close_call m h = with_power m (close_by (live_at m.volume.handles h) m)
