-- The calls that truncate and sync. ("filesystems/zonefs": a sequential file is truncated to 0, which resets
-- its zone, or to its capacity, which finishes it)
use Rattle.std.specs.Prelude.{ℕ, Bool, false, ◌&&◌, ◌||◌, not, ◌==◌, List, [], ◌∷◌, if◌then◌else◌, Option, Some, None, Result, Ok, Err}
use Rattle.zn_truth.specs.declared.Shape.{Shape}
use Rattle.zn_truth.specs.declared.ZoneOp.TheVariants.{Open, Reset, Finish}
use Rattle.zn_truth.specs.Orders.{Order, Manage, FlushAll, Reply}
use Rattle.zn_truth.specs.OrderLists.{issue_all}
use Rattle.zn_truth.specs.World.{issue}
use Rattle.zn_model.specs.declared.files.FileZones.{FileZones}
use Rattle.zn_model.specs.declared.files.Shown.{Shown}
use Rattle.zn_model.specs.declared.handles.Handle.{Handle}
use Rattle.zn_model.specs.declared.answers.Refusal.{Refusal}
use Rattle.zn_model.specs.declared.answers.Refusal.TheVariants.{NotAllowed, FileOffline, BadHandle, BadMode}
use Rattle.zn_model.specs.ZoneFiles.{capacity_of}
use Rattle.zn_model.specs.Access.{writes as may_write_by}
use Rattle.zn_model.specs.Volume.{Volume, Mounted, Live, file_at, shown_at, with_shown, live_at, is_queued}
use Rattle.zn_model.specs.Recovery.{after_failure}
use Rattle.zn_model.specs.CallAnswers.{Answer, refused, answered, as_answer, unless, with_power, rights_refusal, busy_refusal, or_else, as_refused}

-- ---- truncate

-- a truncate is allowed to 0 and to the capacity, in bytes, and to no other size
abbrev pub new_size_refusal : Shape → FileZones → ℕ → Option Refusal
new_size_refusal shape file size = if (size == 0) || (size == capacity_of shape file) then None else Some NotAllowed

-- Ok at once where the size is shown already
abbrev pub unless_same : Bool → Option Refusal → Option (Result (Unit {0}) Refusal)
unless_same same (Some refusal) = Some (Err refusal)
unless_same same None = if same then Some (Ok tt) else None

-- The checks of a truncate: the mode, the kind of file, the rights, the size, requests of the file, and Ok at
-- once for the size that is shown.
unfoldable pub truncate_at_once : Volume → Live → ℕ → Option (Result (Unit {0}) Refusal)
truncate_at_once v live size =
    if not (may_write_by live.mode) then Some (Err BadMode)
    else if not (file_at v.inodes live.file).seq then Some (Err NotAllowed)
    else unless_same (size == (shown_at v.inodes live.file).size)
    (or_else (rights_refusal v.inodes.read_only (shown_at v.inodes live.file))
    (or_else (new_size_refusal v.inodes.shape (file_at v.inodes live.file) size) (busy_refusal (is_queued v.queue live.file))))

-- a reset, and an open where the file is held open; or a finish
abbrev pub truncate_orders : FileZones → Shown → ℕ → List Order
truncate_orders file shown size =
    if size == 0 then Manage file.first Reset ∷ (if shown.held_open then Manage file.first Open ∷ [] else [])
    else Manage file.first Finish ∷ []

-- what a file shows after a truncate: it isn't held open where it is full
abbrev pub truncated : Shape → FileZones → Shown → ℕ → Shown
truncated shape file shown size =
    record shown { size = size; held_open = shown.held_open && not (size == capacity_of shape file) }

-- the file shows what a truncate leaves; the rest of the volume stays
abbrev pub truncated_volume : Volume → ℕ → ℕ → Volume
truncated_volume v f size =
    record v { inodes = with_shown v.inodes f (truncated v.inodes.shape (file_at v.inodes f) (shown_at v.inodes f) size) }

-- what follows the orders of a truncate, by their reply
abbrev pub after_truncate : Reply → Mounted → ℕ → ℕ → Answer (Unit {0})
after_truncate (Ok unit) m f size = answered tt (record m { volume = truncated_volume m.volume f size })
after_truncate (Err error) m f size = as_answer (after_failure false error m f)

-- a truncate that passed its checks: its orders go to the device, and their reply decides the rest
unfoldable pub truncate_now : Mounted → ℕ → ℕ → Answer (Unit {0})
truncate_now m f size =
    let orders = issue_all m.world (truncate_orders (file_at m.volume.inodes f) (shown_at m.volume.inodes f) size) in
    after_truncate orders.reply (record m { world = orders.world }) f size

-- a handle that isn't live is refused; else the checks give the reply, or the file is truncated
abbrev pub truncate_by : Option Live → Mounted → ℕ → Answer (Unit {0})
truncate_by None m size = refused BadHandle m
truncate_by (Some live) m size = unless (truncate_at_once m.volume live size) m (truncate_now m live.file size)

-- Truncates a sequential file to 0 or to its capacity, in bytes.
unfoldable pub truncate_call : Mounted → Handle → ℕ → Answer (Unit {0})
truncate_call m h size = with_power m (truncate_by (live_at m.volume.handles h) m size)

-- ---- sync

-- the checks of a sync: the right to read, and requests of the file
unfoldable pub syncing_refusal : Volume → Live → Option Refusal
syncing_refusal v live =
    if not (shown_at v.inodes live.file).may_read then Some FileOffline
    else busy_refusal (is_queued v.queue live.file)

-- what follows the flush of a sync, by its reply: the volume stays, or what follows a failed command
abbrev pub after_sync : Reply → Mounted → ℕ → Answer (Unit {0})
after_sync (Ok unit) m f = answered tt m
after_sync (Err error) m f = as_answer (after_failure false error m f)

-- one flush of the device; its failure recovers this file alone
unfoldable pub sync_now : Mounted → ℕ → Answer (Unit {0})
sync_now m f = after_sync (issue m.world FlushAll).reply (record m { world = (issue m.world FlushAll).world }) f

-- a handle that isn't live is refused; else the checks refuse, or the device is flushed
abbrev pub sync_by : Option Live → Mounted → Answer (Unit {0})
sync_by None m = refused BadHandle m
sync_by (Some live) m = unless (as_refused (syncing_refusal m.volume live)) m (sync_now m live.file)

-- Makes all that the device holds durable.
unfoldable pub sync_call : Mounted → Handle → Answer (Unit {0})
sync_call m h = with_power m (sync_by (live_at m.volume.handles h) m)
