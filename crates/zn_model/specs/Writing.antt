-- The call that writes: its checks in their order, its orders, and what follows them.
-- ("filesystems/zonefs": sequential files are written at their end alone; the order of checks is own)
use Rattle.std.specs.Prelude.{ℕ, ◌+◌, ◌/◌, ◌%◌, false, ◌&&◌, ◌||◌, not, ◌==◌, nat_lt, List, length, if◌then◌else◌, Option, Some, None, Result, Ok, Err}
use Rattle.zn_truth.specs.declared.limits.TheConstants.{BLOCK_SIZE}
use Rattle.zn_truth.specs.declared.Shape.{Shape}
use Rattle.zn_truth.specs.Orders.{Order, Reply}
use Rattle.zn_truth.specs.OrderLists.{issue_all}
use Rattle.zn_model.specs.declared.files.FileZones.{FileZones}
use Rattle.zn_model.specs.declared.files.Shown.{Shown}
use Rattle.zn_model.specs.declared.files.Area.{Area}
use Rattle.zn_model.specs.declared.handles.Handle.{Handle}
use Rattle.zn_model.specs.declared.answers.Refusal.{Refusal}
use Rattle.zn_model.specs.declared.answers.Refusal.TheVariants.{BadHandle, BadMode, Unaligned, TooBig, BadOffset}
use Rattle.zn_model.specs.ZoneFiles.{zone_room_of, capacity_of}
use Rattle.zn_model.specs.Access.{writes as may_write_by}
use Rattle.zn_model.specs.Volume.{Volume, Mounted, Live, file_at, shown_at, with_shown, live_at, is_queued, issued_end}
use Rattle.zn_model.specs.Pieces.{writes}
use Rattle.zn_model.specs.Recovery.{after_failure}
use Rattle.zn_model.specs.CallAnswers.{Answer, refused, answered, as_answer, unless, with_power, rights_refusal, busy_refusal, or_else, as_refused}

-- ---- checks

-- offset and length of a write, where the last issued write ends
abbrev pub area_refusal : Shape → FileZones → ℕ → ℕ → ℕ → Option Refusal
area_refusal shape file issued offset len =
    if not (offset % BLOCK_SIZE == 0) || not (len % BLOCK_SIZE == 0) then Some Unaligned
    else if nat_lt (capacity_of shape file) (offset + len) then Some TooBig
    else if file.seq && not (offset == issued) then Some BadOffset
    else None

-- no bytes are written at once, after the rights
abbrev pub unless_empty : ℕ → Option Refusal → Option (Result (Unit {0}) Refusal)
unless_empty len check = if len == 0 then Some (Ok tt) else as_refused check

-- a refusal goes before the rest, even where that is Ok at once
abbrev pub rights_then : Option Refusal → Option (Result (Unit {0}) Refusal) → Option (Result (Unit {0}) Refusal)
rights_then (Some refusal) rest = Some (Err refusal)
rights_then None rest = rest

-- The checks of a write: the mode, the rights, Ok at once for no bytes, the area, and requests of the file.
unfoldable pub write_at_once : Volume → Live → ℕ → ℕ → Option (Result (Unit {0}) Refusal)
write_at_once v live offset len =
    if not (may_write_by live.mode) then Some (Err BadMode)
    else rights_then (rights_refusal v.inodes.read_only (shown_at v.inodes live.file))
    (unless_empty len
    (or_else (area_refusal v.inodes.shape (file_at v.inodes live.file) (issued_end v live.file) offset len)
    (busy_refusal (is_queued v.queue live.file))))

-- ---- effect

-- the blocks of a file from an offset on, both in bytes
abbrev pub area_of : Shape → FileZones → ℕ → ℕ → Area
area_of shape file offset len =
    record { first = file.first; room = zone_room_of shape file; from = offset / BLOCK_SIZE; blocks = len / BLOCK_SIZE }

-- what a file shows after a write: a sequential one has grown, and isn't held open where it is full
abbrev pub grown : Shape → FileZones → Shown → ℕ → Shown
grown shape file shown len = record shown {
  size = if file.seq then shown.size + len else shown.size;
  held_open = shown.held_open && not (file.seq && (shown.size + len == capacity_of shape file));
}

-- the file shows what a write leaves; the rest of the volume stays
abbrev pub grown_volume : Volume → ℕ → ℕ → Volume
grown_volume v f len =
    record v { inodes = with_shown v.inodes f (grown v.inodes.shape (file_at v.inodes f) (shown_at v.inodes f) len) }

-- one write for each zone touched, in rising order
abbrev pub write_orders : Volume → ℕ → ℕ → List ℕ → List Order
write_orders v f offset bytes = writes (area_of v.inodes.shape (file_at v.inodes f) offset (length bytes)) bytes

-- what follows the orders of a write, by their reply
abbrev pub after_write : Reply → Mounted → ℕ → ℕ → Answer (Unit {0})
after_write (Ok unit) m f len = answered tt (record m { volume = grown_volume m.volume f len })
after_write (Err error) m f len = as_answer (after_failure false error m f)

-- a write that passed its checks: its orders go to the device, and their reply decides the rest
unfoldable pub write_now : Mounted → ℕ → ℕ → List ℕ → Answer (Unit {0})
write_now m f offset bytes =
    let orders = issue_all m.world (write_orders m.volume f offset bytes) in
    after_write orders.reply (record m { world = orders.world }) f (length bytes)

-- a handle that isn't live is refused; else the checks give the reply, or the bytes are written
abbrev pub write_by : Option Live → Mounted → ℕ → List ℕ → Answer (Unit {0})
write_by None m offset bytes = refused BadHandle m
write_by (Some live) m offset bytes = unless (write_at_once m.volume live offset (length bytes)) m (write_now m live.file offset bytes)

-- Writes bytes at an offset.
unfoldable pub write_call : Mounted → Handle → ℕ → List ℕ → Answer (Unit {0})
write_call m h offset bytes = with_power m (write_by (live_at m.volume.handles h) m offset bytes)
