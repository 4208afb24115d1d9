-- Which files a device has, and which writes a file takes. (own)
use Rattle.std.specs.Prelude.{◌≡◌, ℕ, ◌+◌, ◌%◌, ◌<◌, ◌≤◌, length, Result, Ok, Err, IsTrue}
use Rattle.zn_truth.specs.declared.limits.TheConstants.{BLOCK_SIZE, MAX_BLOCKS, MAX_ZONES}
use Rattle.zn_truth.specs.declared.DevError.{DevError}
use Rattle.zn_truth.specs.declared.Shape.{Shape}
use Rattle.zn_truth.specs.Truth.{Geometry, kind_at}
use Rattle.zn_truth.specs.Orders.{Reply}
use Rattle.zn_truth.specs.World.{World, geometry_of}
use Rattle.zn_model.specs.declared.files.FileZones.{FileZones}
use Rattle.zn_model.specs.declared.files.Shown.{Shown}
use Rattle.zn_model.specs.ZoneFiles.{kind_of, zone_room_of, capacity_of}

-- the shape of the device's zones
abbrev pub shape_of : World → Shape
shape_of w = (geometry_of w).shape

-- A file of a device: it has a zone, its zones lie in the device and are of its kind, and each has some room.
pub record IsFile (g : Geometry) (file : FileZones) : Type 0 where
  pub some : 0 < file.zones
  pub inside : file.first + file.zones ≤ length g.kinds
  pub most : length g.kinds ≤ MAX_ZONES
  pub kinds : (i : ℕ) → i < file.zones → kind_at g (file.first + i) ≡ kind_of file
  pub some_room : 0 < zone_room_of g.shape file
  pub most_room : zone_room_of g.shape file ≤ MAX_BLOCKS

-- A write of so many bytes at an offset, in whole blocks and not none, for which there is room behind what is
-- shown too.
pub record IsWritable (shape : Shape) (file : FileZones) (shown : Shown) (offset len : ℕ) : Type 0 where
  pub aligned : offset % BLOCK_SIZE ≡ 0
  pub whole : len % BLOCK_SIZE ≡ 0
  pub some : 0 < len
  pub inside : offset + len ≤ capacity_of shape file
  pub behind : IsTrue file.seq → shown.size + len ≤ capacity_of shape file

-- a reply without its value
abbrev pub as_reply : {T : Type 0} → Result T DevError → Reply
as_reply (Ok value) = Ok tt
as_reply (Err error) = Err error

-- what a file shows: something new where the orders were done, else what it showed
abbrev pub shown_after : Reply → Shown → Shown → Shown
shown_after (Ok unit) new old = new
shown_after (Err error) new old = old
