-- The parts of an area of a file, one in each zone that it touches, and the orders for them. (own)
use Rattle.std.specs.Prelude.{ℕ, ◌+◌, ◌-◌, ◌*◌, ◌/◌, ◌^◌, ◌<◌, ◌≤◌, min, max, List, take, drop}
use Rattle.std.specs.List.{range_with_len, flat_map}
use Rattle.zn_truth.specs.declared.limits.TheConstants.{BLOCK_SIZE}
use Rattle.zn_truth.specs.Truth.{Geometry, Truth, bytes_at}
use Rattle.zn_truth.specs.Orders.{Order, WriteAt, ReadAt}
use Rattle.zn_truth.specs.OrderLists.{each_zone}
use Rattle.zn_truth.specs.Obeying.{Fits}
use Rattle.zn_model.specs.declared.files.Area.{Area}
use Rattle.zn_model.specs.declared.files.Piece.{Piece}

-- the part of the area in the file's zone i
abbrev pub piece : Area → ℕ → Piece
piece a i = record {
  zone = a.first + i;
  at = a.from - i * a.room;
  before = i * a.room - a.from;
  blocks = min (a.from + a.blocks) (i * a.room + a.room) - max a.from (i * a.room);
}

-- the file's first zone that the area touches, and the one after the last
abbrev pub zone_from : Area → ℕ
zone_from a = a.from / a.room

-- one past the file's last zone that an area with blocks touches
abbrev pub zone_to : Area → ℕ
zone_to a = (a.from + a.blocks - 1) / a.room + 1

-- blocks of the bytes
abbrev pub blocks_of : List ℕ → ℕ → ℕ → List ℕ
blocks_of bytes before n = take (BLOCK_SIZE * n) (drop (BLOCK_SIZE * before) bytes)

-- the order that writes the area's part in the file's zone i, with that part of the bytes
abbrev pub write_in : Area → List ℕ → ℕ → Order
write_in a bytes i = WriteAt (piece a i).zone (piece a i).at (blocks_of bytes (piece a i).before (piece a i).blocks)

-- the order that reads the area's part in the file's zone i
abbrev pub read_in : Area → ℕ → Order
read_in a i = ReadAt (piece a i).zone (piece a i).at (piece a i).blocks

-- a write to the area: one order a zone
abbrev pub writes : Area → List ℕ → List Order
writes a bytes = each_zone (write_in a bytes) (zone_from a) (zone_to a)

-- a read of the area: one order for each zone touched, in rising order
abbrev pub reads : Area → List Order
reads a = each_zone (read_in a) (zone_from a) (zone_to a)

-- the area lies in so many zones of a device, each of its room, and is not empty
pub record Lies (g : Geometry) (a : Area) (count : ℕ) : Type 0 where
  pub zones : (i : ℕ) → i < count → Fits g (a.first + i) 0 a.room
  pub room : 0 < a.room
  pub some : 0 < a.blocks
  pub inside : a.from + a.blocks ≤ count * a.room
  pub first : a.first + count < 2 ^ 32
  pub size : count * a.room < 2 ^ 32

-- the area touches the file's zone i
pub record Touched (a : Area) (i : ℕ) : Type 0 where
  pub from : a.from < i * a.room + a.room
  pub to : i * a.room < a.from + a.blocks

-- ---- what a read gives

-- the bytes that are told of the area's part in the file's zone i
abbrev pub bytes_in : Truth → Area → ℕ → List ℕ
bytes_in t a i = bytes_at t (piece a i).zone (piece a i).at (piece a i).blocks

-- what each zone gives, one after another
unfoldable pub each_bytes : (ℕ → List ℕ) → ℕ → ℕ → List ℕ
each_bytes bytes from to = flat_map bytes (range_with_len from (to - from))

-- the bytes of an area
abbrev pub area_bytes : Truth → Area → List ℕ
area_bytes t a = each_bytes (bytes_in t a) (zone_from a) (zone_to a)

-- the area's blocks before the file's zone i
abbrev pub blocks_before : Area → ℕ → ℕ
blocks_before a i = min a.blocks (i * a.room - a.from)
