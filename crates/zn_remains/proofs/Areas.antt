-- The orders of reads and writes fit the device.
use Rattle.std.proofs.Common.{◌≡◌, ℕ, zero, suc, ◌+◌, ◌-◌, ◌*◌, ◌/◌, ◌<◌, ◌≤◌, true, List, length, drop, refl, sym, ap, ◌∙◌, subst, arith, length-take, length-drop}
use Rattle.std.specs.Prelude.{nat_le, nat_lt, ◌&&◌}
use Rattle.std.specs.List.{All, range_with_len}
use Rattle.std.proofs.Math.Nat.{lt-div-mul-add, div-mul-le_self}
use Rattle.std.proofs.lemmas.Bool.Decides.{nat_tests}
use Rattle.std.proofs.lemmas.List.Elements.{All-map}
use Rattle.std.proofs.lemmas.List.FromFn.{length-range_with_len, get_or-range_with_len}
use Rattle.std.proofs.lemmas.Nat.{div_below, mul-le}
use Rattle.zn_truth.specs.declared.Kind.{Kind}
use Rattle.zn_truth.specs.declared.Shape.{Shape}
use Rattle.zn_truth.specs.Truth.{Geometry, room, kind_at}
use Rattle.zn_truth.specs.Orders.{Order, ReadAt, WriteAt}
use Rattle.zn_truth.specs.Obeying.{IsWhole, Fits, IsOrderFor}
use Rattle.zn_truth.specs.OrderLists.{each_zone}
use Rattle.zn_model.specs.declared.files.Area.{Area}
use Rattle.zn_model.specs.declared.files.FileZones.{FileZones}
use Rattle.zn_model.specs.ZoneFiles.{kind_of, zone_room_of, capacity_of, has_zone}
use Rattle.zn_model.specs.Pieces.{piece, zone_from, zone_to, blocks_of, write_in, read_in, writes, reads}
use Rattle.zn_model.specs.Reading.{read_area}
use Rattle.zn_model.specs.Writing.{area_of}

-- A file of the device: its zones are there and of its kind, and a sequential file has one.
pub record IsFileIn (g : Geometry) (file : FileZones) : Type 0 where
  pub inside : file.first + file.zones ≤ length g.kinds
  pub kinds : (i : ℕ) → i < file.zones → kind_at g (file.first + i) ≡ kind_of file
  pub single : file.seq ≡ true → file.zones ≡ 1

-- ---- orders of a range

-- what holds of the order of each index of a range holds of all
pub each_all : (P : Order → Type 0) (order : ℕ → Order) (from to : ℕ) → ((i : ℕ) → from ≤ i → i < to → P (order i)) → All P (each_zone order from to)
unfolding each_zone
each_all P order from to each = All-map P order (range_with_len from (to - from)) (λ k d below.
    let within : k < to - from = omega (arith, below, length-range_with_len from (to - from)) in
    subst (λ (i : ℕ). P (order i)) (sym (get_or-range_with_len from (to - from) k d within)) (each (from + k) (omega arith) (omega (arith, within))))

-- ---- the parts of an area

-- the area isn't empty, lies in so many zones, and touches the one with this index
pub record Touches (a : Area) (count i : ℕ) : Type 0 where
  pub room : 0 < a.room
  pub some : 0 < a.blocks
  pub below : i < count
  pub from : a.from < i * a.room + a.room
  pub to : i * a.room < a.from + a.blocks

touches : (a : Area) (count i : ℕ) → 0 < a.room → 0 < a.blocks → a.from + a.blocks ≤ count * a.room → zone_from a ≤ i → i < zone_to a → Touches a count i
touches a count i room some inside lower upper = record {
  room = room;
  some = some;
  below = omega (arith, div_below (a.from + a.blocks - 1) a.room count room (omega arith));
  from = omega (arith, lt-div-mul-add {a = a.from} {b = a.room} room, mul-le (a.from / a.room) a.room i a.room lower (omega arith));
  to = omega (arith, div-mul-le_self (a.from + a.blocks - 1) a.room, mul-le i a.room ((a.from + a.blocks - 1) / a.room) a.room (omega arith) (omega arith));
}

-- a part has blocks, and room in its zone
part_some : (a : Area) (count i : ℕ) → Touches a count i → 0 < (piece a i).blocks
part_some a count i is = omega (arith, is.from, is.to, is.some, is.room)

part_room : (a : Area) (count i : ℕ) → Touches a count i → (piece a i).at + (piece a i).blocks ≤ a.room
part_room a count i is = omega (arith, is.from, is.to)

part_inside : (a : Area) (count i : ℕ) → Touches a count i → (piece a i).before + (piece a i).blocks ≤ a.blocks
part_inside a count i is = omega (arith, is.from, is.to)

-- ---- the parts in a file

-- the area of a file's blocks
pub record LiesIn (g : Geometry) (file : FileZones) (a : Area) : Type 0 where
  pub first : a.first ≡ file.first
  pub room : a.room ≡ zone_room_of g.shape file
  pub some : 0 < a.blocks
  pub inside : a.from + a.blocks ≤ file.zones * a.room

-- a file in which something lies has zones with room
room_some : (g : Geometry) (file : FileZones) (a : Area) → LiesIn g file a → 0 < a.room
room_some g file a lies = by_room a.room refl
  where
    by_room : (n : ℕ) → a.room ≡ n → 0 < n
    by_room zero none = let nothing : file.zones * a.room ≡ 0 = ap (λ (n : ℕ). file.zones * n) none ∙ (let e : file.zones * 0 ≡ 0 = omega arith in e) in absurd (omega (arith, nothing, lies.inside, lies.some))
    by_room (suc n) is = omega arith

part_touches : (g : Geometry) (file : FileZones) (a : Area) (i : ℕ) → LiesIn g file a → zone_from a ≤ i → i < zone_to a → Touches a file.zones i
part_touches g file a i lies lower upper = touches a file.zones i (room_some g file a lies) lies.some lies.inside lower upper

part_fits : (g : Geometry) (file : FileZones) (a : Area) (i : ℕ) → IsFileIn g file → LiesIn g file a → Touches a file.zones i → Fits g (piece a i).zone (piece a i).at (piece a i).blocks
part_fits g file a i is lies touch =
    let at : (piece a i).zone ≡ file.first + i = ap (λ (n : ℕ). n + i) lies.first in
    let most : a.room ≡ room g.shape (kind_at g (piece a i).zone) = lies.room ∙ ap (λ (k : Kind). room g.shape k) (sym (is.kinds i touch.below)) ∙ ap (λ (n : ℕ). room g.shape (kind_at g n)) (sym at) in
    record { zone = omega (arith, at, touch.below, is.inside); room = omega (arith, most, part_room a file.zones i touch) }

-- the part's zone is one of the file's
in_zones : (first zones i at : ℕ) → at ≡ first → i < zones → (nat_le first (at + i) && nat_lt (at + i) (first + zones)) ≡ true
in_zones first zones i at same below = grind (arith, nat_tests)

part_zone : (g : Geometry) (file : FileZones) (a : Area) (i : ℕ) → LiesIn g file a → Touches a file.zones i → has_zone (piece a i).zone file ≡ true
part_zone g file a i lies touch = in_zones file.first file.zones i a.first lies.first touch.below

-- ---- whole orders

-- the bytes of a part are whole blocks
length_part : (bytes : List ℕ) (before n : ℕ) → 4096 * before + 4096 * n ≤ length bytes → length (blocks_of bytes before n) ≡ 4096 * n
length_part bytes before n fits = omega (arith, length-take (4096 * n) (drop (4096 * before) bytes), length-drop (4096 * before) bytes)

whole_part : (bytes : List ℕ) (before n : ℕ) → 4096 * before + 4096 * n ≤ length bytes → 0 < n → IsWhole (blocks_of bytes before n)
whole_part bytes before n fits some = let size = length_part bytes before n fits in record { whole = omega (arith, size); some = omega (arith, size) }

-- what holds of orders that fit and name zones of the file
module _ (g : Geometry) (file : FileZones) (is : IsFileIn g file) where
  pub reads_fit : (P : Order → Type 0) → ((z at n : ℕ) → Fits g z at n → has_zone z file ≡ true → P (ReadAt z at n)) → (a : Area) → LiesIn g file a → All P (reads a)
  reads_fit P gives a lies = each_all P (read_in a) (zone_from a) (zone_to a) (λ i lower upper.
      let touch = part_touches g file a i lies lower upper in
      gives (piece a i).zone (piece a i).at (piece a i).blocks (part_fits g file a i is lies touch) (part_zone g file a i lies touch))

  write_fits : (a : Area) (bytes : List ℕ) (i : ℕ) → LiesIn g file a → 4096 * a.blocks ≡ length bytes → Touches a file.zones i → IsOrderFor g (write_in a bytes i)
  write_fits a bytes i lies whole touch =
      let inside = part_inside a file.zones i touch in
      let size = length_part bytes (piece a i).before (piece a i).blocks (omega (arith, inside, whole)) in
      let fits = part_fits g file a i is lies touch in
      let count : length (blocks_of bytes (piece a i).before (piece a i).blocks) / 4096 ≡ (piece a i).blocks = omega (arith, size) in (
        whole_part bytes (piece a i).before (piece a i).blocks (omega (arith, inside, whole)) (part_some a file.zones i touch),
        subst (λ (n : ℕ). Fits g (piece a i).zone (piece a i).at n) (sym count) fits,
      )

  pub writes_fit : (P : Order → Type 0) → ((z at : ℕ) (bytes : List ℕ) → IsOrderFor g (WriteAt z at bytes) → has_zone z file ≡ true → P (WriteAt z at bytes)) → (a : Area) (bytes : List ℕ) → LiesIn g file a → 4096 * a.blocks ≡ length bytes
      → All P (writes a bytes)
  writes_fit P gives a bytes lies whole = each_all P (write_in a bytes) (zone_from a) (zone_to a) (λ i lower upper.
      let touch = part_touches g file a i lies lower upper in
      gives (piece a i).zone (piece a i).at (blocks_of bytes (piece a i).before (piece a i).blocks) (write_fits a bytes i lies whole touch) (part_zone g file a i lies touch))

-- ---- areas of calls

-- the blocks of a read that ends within the file
pub read_lies : (g : Geometry) (shape : Shape) (file : FileZones) (offset end : ℕ) → shape ≡ g.shape → offset < end → end ≤ capacity_of shape file → LiesIn g file (read_area shape file offset end)
read_lies g shape file offset end same some inside = record {
  first = refl;
  room = ap (λ (s : Shape). zone_room_of s file) same;
  some = omega arith;
  inside = omega (arith, inside);
}

-- the blocks of a write that ends within the file
pub write_lies : (g : Geometry) (shape : Shape) (file : FileZones) (offset len : ℕ) → shape ≡ g.shape → 0 < len → 4096 * (offset / 4096) ≡ offset → 4096 * (len / 4096) ≡ len → offset + len ≤ capacity_of shape file
    → LiesIn g file (area_of shape file offset len)
write_lies g shape file offset len same some aligned whole inside = record {
  first = refl;
  room = ap (λ (s : Shape). zone_room_of s file) same;
  some = omega arith;
  inside = omega (arith, inside);
}
