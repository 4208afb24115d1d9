-- The call that reads. ("filesystems/zonefs"; that a read that begins past the capacity is refused, and one
-- that begins inside is cut at the size, is own)
use Rattle.std.specs.Prelude.{ℕ, ◌+◌, ◌-◌, ◌/◌, ◌%◌, min, true, not, nat_lt, List, [], take, drop, if◌then◌else◌, Option, Some, None, Ok, Err}
use Rattle.zn_truth.specs.declared.limits.TheConstants.{BLOCK_SIZE}
use Rattle.zn_truth.specs.declared.Shape.{Shape}
use Rattle.zn_truth.specs.Truth.{Truth}
use Rattle.zn_truth.specs.Orders.{Order, Reply}
use Rattle.zn_truth.specs.OrderLists.{issue_all}
use Rattle.zn_model.specs.declared.files.FileZones.{FileZones}
use Rattle.zn_model.specs.declared.files.Shown.{Shown}
use Rattle.zn_model.specs.declared.files.Area.{Area}
use Rattle.zn_model.specs.declared.handles.Handle.{Handle}
use Rattle.zn_model.specs.declared.answers.Refusal.{Refusal}
use Rattle.zn_model.specs.declared.answers.Refusal.TheVariants.{FileOffline, BadHandle, BadMode, TooBig}
use Rattle.zn_model.specs.ZoneFiles.{zone_room_of}
use Rattle.zn_model.specs.Access.{reads as may_read_by}
use Rattle.zn_model.specs.Volume.{Volume, Mounted, Live, file_at, capacity_at, shown_at, live_at}
use Rattle.zn_model.specs.Given.{told_or}
use Rattle.zn_model.specs.Pieces.{reads, area_bytes}
use Rattle.zn_model.specs.Recovery.{after_failure}
use Rattle.zn_model.specs.CallAnswers.{Answer, refused, answered, as_answer, unless, with_power, as_refused}

-- the checks of a read: the mode, the rights, and the offset
unfoldable pub reading_refusal : Volume → Live → ℕ → Option Refusal
reading_refusal v live offset =
    if not (may_read_by live.mode) then Some BadMode
    else if not (shown_at v.inodes live.file).may_read then Some FileOffline
    else if nat_lt (capacity_at v.inodes live.file) offset then Some TooBig
    else None

-- where a read of so many bytes ends: at the size that is shown, at the latest
abbrev pub read_end : Shown → ℕ → ℕ → ℕ
read_end shown offset len = min (offset + len) shown.size

-- the blocks that cover the bytes from an offset to an end
abbrev pub read_area : Shape → FileZones → ℕ → ℕ → Area
read_area shape file offset end = record {
  first = file.first;
  room = zone_room_of shape file;
  from = offset / BLOCK_SIZE;
  blocks = (end + (BLOCK_SIZE - 1)) / BLOCK_SIZE - offset / BLOCK_SIZE;
}

-- one read of the covering blocks for each zone touched, in rising order; none where there are no bytes
abbrev pub read_orders : Shape → FileZones → ℕ → ℕ → List Order
read_orders shape file offset end = if nat_lt offset end then reads (read_area shape file offset end) else []

-- the bytes from an offset to an end, where they are told
abbrev pub read_bytes : Truth → Shape → FileZones → ℕ → ℕ → List ℕ
read_bytes t shape file offset end = take (end - offset) (drop (offset % BLOCK_SIZE) (area_bytes t (read_area shape file offset end)))

-- what follows the orders of a read, by their reply
abbrev pub after_read : Reply → Mounted → ℕ → List ℕ → Answer (List ℕ)
after_read (Ok unit) m f bytes = answered bytes m
after_read (Err error) m f bytes = as_answer (after_failure true error m f)

-- A read that passed its checks: its orders go to the device, and their reply decides what is answered. `given` is
-- what the device gave, and counts only where it doesn't tell its bytes.
unfoldable pub read_now : List ℕ → Mounted → ℕ → ℕ → ℕ → Answer (List ℕ)
read_now given m f offset len =
    let file = file_at m.volume.inodes f in
    let shape = m.volume.inodes.shape in
    let end = read_end (shown_at m.volume.inodes f) offset len in
    let orders = issue_all m.world (read_orders shape file offset end) in
    after_read orders.reply (record m { world = orders.world }) f
    (told_or m.world.truth (end - offset) (read_bytes m.world.truth shape file offset end) given)

-- a handle that isn't live is refused; else the checks refuse, or the file is read
abbrev pub read_by : List ℕ → Option Live → Mounted → ℕ → ℕ → Answer (List ℕ)
read_by given None m offset len = refused BadHandle m
read_by given (Some live) m offset len = unless (as_refused (reading_refusal m.volume live offset)) m (read_now given m live.file offset len)

-- Reads at most `len` bytes from an offset on. The bytes are those that the device tells, or else those given; all
-- else, how many they are among it, is the same whatever was given.
unfoldable pub read_call : List ℕ → Mounted → Handle → ℕ → ℕ → Answer (List ℕ)
read_call given m h offset len = with_power m (read_by given (live_at m.volume.handles h) m offset len)

-- the handle must be live, and needs no rights
abbrev pub size_by : Option Live → Mounted → Answer ℕ
size_by None m = refused BadHandle m
size_by (Some live) m = answered (shown_at m.volume.inodes live.file).size m

-- The size that the file shows, in bytes.
unfoldable pub size_call : Mounted → Handle → Answer ℕ
size_call m h = with_power m (size_by (live_at m.volume.handles h) m)
