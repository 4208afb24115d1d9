-- Where the parts of an area lie.
use Rattle.std.proofs.Common.{◌≡◌, ℕ, ◌+◌, ◌-◌, ◌*◌, ◌/◌, ◌^◌, ◌<◌, ◌≤◌, List, take, drop, ap, ◌∙◌, arith}
use Rattle.std.proofs.Math.Nat.{lt-div-mul-add, div-mul-le_self}
use Rattle.std.proofs.lemmas.Nat.{div_below, mul-le, le-div}
use Rattle.zn_truth.specs.declared.Kind.{Kind}
use Rattle.zn_truth.specs.Truth.{Geometry, room, kind_at}
use Rattle.zn_model.specs.declared.files.Area.{Area}
use Rattle.zn_model.specs.declared.files.FileZones.{FileZones}
use Rattle.zn_model.specs.declared.files.Shown.{Shown}
use Rattle.zn_model.specs.ZoneFiles.{zone_room_of, room_of, capacity_of}
use Rattle.zn_model.specs.Pieces.{zone_from, zone_to, blocks_of, Touched, Lies}
use Rattle.zn_model.specs.Writing.{area_of}
use Rattle.zn_model.specs.Reading.{read_area}
use Rattle.zn_io.specs.Files.{IsFile, IsWritable}

-- the quotient of a number below a multiple
pub zones_inside : (e zones room : ℕ) → 0 < room → 0 < e → e ≤ zones * room → (e - 1) / room < zones
zones_inside e zones room h some inside = div_below (e - 1) room zones h (omega arith)

div-le : (a b room : ℕ) → 0 < room → a ≤ b → a / room ≤ b / room
div-le a b room h le = le-div (a / room) b room h (omega (arith, div-mul-le_self a room))

pub from_below : (from blocks room : ℕ) → 0 < room → 0 < blocks → from / room ≤ (from + blocks - 1) / room
from_below from blocks room h some = div-le from (from + blocks - 1) room h (omega arith)

pub touched : (a : Area) (i : ℕ) → 0 < a.room → 0 < a.blocks → zone_from a ≤ i → i < zone_to a → Touched a i
touched a i h some lower upper = record {
  from = omega (arith, lt-div-mul-add {a = a.from} {b = a.room} h, mul-le (a.from / a.room) a.room i a.room lower (omega arith));
  to = omega (arith, div-mul-le_self (a.from + a.blocks - 1) a.room, mul-le i a.room ((a.from + a.blocks - 1) / a.room) a.room (omega arith) (omega arith));
}

-- each zone of a file has the file's room
pub zone_room : (g : Geometry) (file : FileZones) (i : ℕ) → IsFile g file → i < file.zones → room g.shape (kind_at g (file.first + i)) ≡ zone_room_of g.shape file
zone_room g file i is below = ap (λ (kind : Kind). room g.shape kind) (is.kinds i below)

pub room_below : (g : Geometry) (file : FileZones) → IsFile g file → room_of g.shape file < 2 ^ 32
room_below g file is = omega (arith, mul-le file.zones (zone_room_of g.shape file) 4096 65536 (omega (arith, is.inside, is.most)) is.most_room)

pub capacity_below : (g : Geometry) (file : FileZones) → IsFile g file → capacity_of g.shape file < 2 ^ 48
capacity_below g file is = omega (arith, room_below g file is)

-- blocks of a file lie in its zones
lies : (g : Geometry) (file : FileZones) (from blocks : ℕ) → IsFile g file → 0 < blocks → from + blocks ≤ room_of g.shape file
    → let a : Area = record { first = file.first; room = zone_room_of g.shape file; from = from; blocks = blocks } in Lies g a file.zones
lies g file from blocks is some inside = record {
  zones = λ i below. record { zone = omega (arith, is.inside); room = omega (arith, zone_room g file i is below) };
  room = is.some_room;
  some = some;
  inside = inside;
  first = omega (arith, is.inside, is.most);
  size = room_below g file is;
}

pub area_lies : (g : Geometry) (file : FileZones) (shown : Shown) (offset len : ℕ) → IsFile g file → IsWritable g.shape file shown offset len → Lies g (area_of g.shape file offset len) file.zones
area_lies g file shown offset len is write =
    lies g file (offset / 4096) (len / 4096) is (omega (arith, write.whole, write.some)) (omega (arith, write.aligned, write.whole, write.inside))

pub read_lies : (g : Geometry) (file : FileZones) (offset end : ℕ) → IsFile g file → offset < end → end ≤ capacity_of g.shape file → Lies g (read_area g.shape file offset end) file.zones
read_lies g file offset end is some inside =
    lies g file (offset / 4096) ((end + 4095) / 4096 - offset / 4096) is (omega arith) (omega arith)

pub same_bytes : (before n : ℕ) (bytes part : List ℕ) → part ≡ take (4096 * before + 4096 * n - 4096 * before) (drop (4096 * before) bytes) → part ≡ blocks_of bytes before n
same_bytes before n bytes part h = h ∙ ap (λ (k : ℕ). take k (drop (4096 * before) bytes)) (omega arith)
