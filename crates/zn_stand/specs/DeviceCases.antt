-- Small directories of devices, worked through.
use Rattle.std.specs.Prelude.{◌≡◌, ℕ, true, false, List, [], ◌∷◌, ◌++◌, map, replicate, Option, Some, Ok, Err, codes}
use Rattle.std.specs.List.{flat_map}
use Rattle.std.specs.Result.{result_err}
use Rattle.std.specs.FinMap.{from_sorted}
use Rattle.zn_truth.specs.declared.Kind.TheVariants.{Conventional, Sequential}
use Rattle.zn_truth.specs.declared.Cond.TheVariants.{Good, ReadOnly, Offline}
use Rattle.zn_stand.specs.declared.numbers.Geometry.{Geometry}
use Rattle.zn_stand.specs.Maps.{Name, name_cmp}
use Rattle.zn_stand.specs.Directory.{Contents}
use Rattle.zn_stand.specs.ZoneNames.{zone_name, read_only_name, offline_name, device_name}
use Rattle.zn_stand.specs.DeviceText.{device_text, text_read}
use Rattle.zn_stand.specs.AtRest.{NotADevice, BadGeometry, MissingFile, BadZoneFile, ExtraName, TooManyActive, at_rest}

-- ---- texts

-- three zones of two blocks, the first of them conventional, of which one may be active
abbrev pub three_zones : Geometry
three_zones = record { zones = 3; conv = 1; shape = record { zone_blocks = 2; zone_capacity = 2; max_open = 0; max_active = 1 } }

-- the lines, each with its newline
abbrev pub text_of : List (List ℕ) → List ℕ
text_of lines = flat_map (λ line. line ++ 10 ∷ []) lines

-- the last lines of the text
abbrev pub last_lines : List (List ℕ)
last_lines = codes "zone_blocks 2" ∷ codes "zone_capacity 2" ∷ codes "max_open 0" ∷ codes "max_active 1" ∷ []

-- Its text is seven lines.
abbrev pub TextWritten : Type 0
TextWritten = device_text three_zones ≡ text_of (codes "zloop 1" ∷ codes "zones 3" ∷ codes "conv 1" ∷ last_lines)

-- the line that refuses each text
abbrev pub refused : List (List ℕ) → List (Option ℕ)
refused texts = map (λ text. result_err (text_read text)) texts

-- No text; another version; a leading zero; no number; a line too many; a last line without its newline; more
-- conventional zones than zones; a number that no field holds.
abbrev pub TextsRefused : Type 0
TextsRefused = refused (
    [] ∷ text_of (codes "zloop 2" ∷ codes "zones 3" ∷ codes "conv 1" ∷ last_lines)
    ∷ text_of (codes "zloop 1" ∷ codes "zones 03" ∷ codes "conv 1" ∷ last_lines)
    ∷ text_of (codes "zloop 1" ∷ codes "zones 3" ∷ codes "conv " ∷ last_lines)
    ∷ text_of (codes "zloop 1" ∷ codes "zones 3" ∷ codes "conv 1" ∷ last_lines ++ [] ∷ [])
    ∷ (text_of (codes "zloop 1" ∷ codes "zones 3" ∷ codes "conv 1" ∷ codes "zone_blocks 2" ∷ codes "zone_capacity 2" ∷ codes "max_open 0" ∷ []) ++ codes "max_active 1")
    ∷ text_of (codes "zloop 1" ∷ codes "zones 3" ∷ codes "conv 4" ∷ last_lines)
    ∷ text_of (codes "zloop 1" ∷ codes "zones 3" ∷ codes "conv 1" ∷ codes "zone_blocks 99999999999" ∷ codes "zone_capacity 2" ∷ codes "max_open 0" ∷ codes "max_active 1" ∷ [])
    ∷ []
    ) ≡ Some 1 ∷ Some 1 ∷ Some 2 ∷ Some 3 ∷ Some 8 ∷ Some 7 ∷ Some 0 ∷ Some 0 ∷ []

-- ---- directories

-- files by name, in the order of names
abbrev pub Listing : Type 0
Listing = List (Name × List ℕ)

-- a directory of these files
abbrev pub holding : Listing → Contents
holding files = from_sorted {R = name_cmp} files

-- a block of this byte
abbrev pub block : ℕ → List ℕ
block byte = replicate 4096 byte

-- the file of the conventional zone, the file `device`, and others behind them
abbrev pub first_files : List ℕ → Listing → Listing
first_files bytes others = (zone_name Conventional 0, bytes) ∷ (device_name, device_text three_zones) ∷ others

-- the file of the first sequential zone, and others behind it
abbrev pub one_zone : List ℕ → Listing → Listing
one_zone bytes others = (zone_name Sequential 1, bytes) ∷ others

-- the file of the second one, and others behind it
abbrev pub other_zone : List ℕ → Listing → Listing
other_zone bytes others = (zone_name Sequential 2, bytes) ∷ others

-- a good device: the conventional zone, a zone that holds a block, and an empty one
abbrev pub good_with : Listing → Listing
good_with others = first_files (replicate 8192 7) (one_zone (block 1) (other_zone [] others))

-- No file `device`.
abbrev pub no_files : Listing
no_files = other_zone [] []

abbrev pub NoDevice : Type 0
NoDevice = at_rest (holding no_files) ≡ Err NotADevice

-- A text whose second line isn't of its form.
abbrev pub bad_text : Listing
bad_text = (device_name, text_of (codes "zloop 1" ∷ codes "zones" ∷ [])) ∷ []

abbrev pub BadText : Type 0
BadText = at_rest (holding bad_text) ≡ Err (BadGeometry 2)

-- The file of zone 2 is missing.
abbrev pub without_one : Listing
without_one = first_files (replicate 8192 7) (one_zone [] [])

abbrev pub FileMissing : Type 0
FileMissing = at_rest (holding without_one) ≡ Err (MissingFile Sequential 2)

-- The file of a conventional zone is a block short.
abbrev pub short_zone : Listing
short_zone = first_files (block 7) []

abbrev pub FileShort : Type 0
FileShort = at_rest (holding short_zone) ≡ Err (BadZoneFile Conventional 0 4096)

-- The file of a sequential zone isn't whole blocks.
abbrev pub uneven_zone : Listing
uneven_zone = first_files (replicate 8192 7) (one_zone (8 ∷ block 8) [])

abbrev pub FileUneven : Type 0
FileUneven = at_rest (holding uneven_zone) ≡ Err (BadZoneFile Sequential 1 4097)

-- The file of a sequential zone is longer than its capacity, though the zone is offline.
abbrev pub long_zone : Listing
long_zone = first_files (replicate 8192 7) (one_zone [] (other_zone (replicate 12288 8) ((offline_name Sequential 2, []) ∷ [])))

abbrev pub FileLong : Type 0
FileLong = at_rest (holding long_zone) ≡ Err (BadZoneFile Sequential 2 12288)

-- Another file.
abbrev pub with_notes : Listing
with_notes = first_files (replicate 8192 7) ((codes "notes", []) ∷ one_zone [] (other_zone [] []))

abbrev pub OtherFile : Type 0
OtherFile = at_rest (holding with_notes) ≡ Err (ExtraName (codes "notes"))

-- A marker that isn't empty.
abbrev pub full_marker : Listing
full_marker = good_with ((read_only_name Sequential 2, 1 ∷ []) ∷ [])

abbrev pub MarkerFull : Type 0
MarkerFull = at_rest (holding full_marker) ≡ Err (ExtraName (read_only_name Sequential 2))

-- A marker of a zone that isn't there.
abbrev pub lone_marker : Listing
lone_marker = good_with ((read_only_name Sequential 3, []) ∷ [])

abbrev pub MarkerAlone : Type 0
MarkerAlone = at_rest (holding lone_marker) ≡ Err (ExtraName (read_only_name Sequential 3))

-- More zones are partly written than may be active.
abbrev pub two_written : Listing
two_written = first_files (replicate 8192 7) (one_zone (block 1) (other_zone (block 2) []))

abbrev pub ManyActive : Type 0
ManyActive = at_rest (holding two_written) ≡ Err (TooManyActive 2)

-- A device with a zone that is read-only and one that is offline.
abbrev pub two_marked : Listing
two_marked = first_files (replicate 8192 7) (one_zone (block 1) ((read_only_name Sequential 1, []) ∷ other_zone (block 2) ((offline_name Sequential 2, []) ∷ [])))

abbrev pub Held : Type 0
Held = at_rest (holding two_marked) ≡ Ok (record {
  told = true;
  shape = three_zones.shape;
  zones =
      (record { kind = Conventional; cond = Good; held = 2; bytes = replicate 8192 7; durable = 2; unflushed = false ∷ false ∷ []; explicit = false })
      ∷ (record { kind = Sequential; cond = ReadOnly; held = 1; bytes = block 1; durable = 1; unflushed = []; explicit = false })
      ∷ (record { kind = Sequential; cond = Offline; held = 0; bytes = []; durable = 0; unflushed = []; explicit = false })
      ∷ [];
})
