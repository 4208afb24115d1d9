-- The names of the files of a zoned device. (own)
use Rattle.std.specs.Prelude.{ℕ, ◌+◌, ◌-◌, ◌*◌, ◌/◌, ◌%◌, Bool, ◌&&◌, ◌||◌, nat_lt, List, [], ◌∷◌, map, slice_index, codes, if◌then◌else◌}
use Rattle.std.specs.List.{range_with_len}
use Rattle.std.specs.Str.{bytes_eq}
use Rattle.zn_base.specs.Texts.{◌⧺◌}
use Rattle.zn_truth.specs.declared.Kind.{Kind}
use Rattle.zn_truth.specs.declared.Kind.TheVariants.{Conventional, Sequential}
use Rattle.zn_truth.specs.Truth.{Geometry as TruthGeometry}
use Rattle.zn_stand.specs.declared.numbers.Geometry.{Geometry}
use Rattle.zn_stand.specs.Maps.{Name}

-- ---- zones

-- the first zones are conventional
abbrev pub kind_of : Geometry → ℕ → Kind
kind_of geo z = if nat_lt z geo.conv then Conventional else Sequential

-- the numbers of all zones
abbrev pub zone_numbers : Geometry → List ℕ
zone_numbers geo = range_with_len 0 geo.zones

-- the kinds of all zones
abbrev pub kinds_of : Geometry → List Kind
kinds_of geo = map (kind_of geo) (zone_numbers geo)

-- the geometry of a device with these numbers
abbrev pub geometry_of_device : Geometry → TruthGeometry
geometry_of_device geo = record { shape = geo.shape; kinds = kinds_of geo }

-- ---- names

-- the last decimal digit
abbrev pub last_digit : ℕ → ℕ
last_digit n = 48 + n % 10

-- six decimal digits, with leading zeros
unfoldable pub six_digits : ℕ → List ℕ
six_digits n = last_digit (n / 100000) ∷ last_digit (n / 10000) ∷ last_digit (n / 1000) ∷ last_digit (n / 100) ∷ last_digit (n / 10) ∷ last_digit n ∷ []

-- how the name of a zone's file begins
abbrev pub kind_text : Kind → List ℕ
kind_text Conventional = codes "cnv-"
kind_text Sequential = codes "seq-"

-- the file with the geometry's text
unfoldable pub device_name : Name
device_name = codes "device"

-- a zone's file: its kind, and its number in six digits
unfoldable pub zone_name : Kind → ℕ → Name
zone_name kind z = kind_text kind ⧺ six_digits z

-- the marker of a zone that is read-only
unfoldable pub read_only_name : Kind → ℕ → Name
read_only_name kind z = zone_name kind z ⧺ codes ".ro"

-- the marker of a zone that is offline
unfoldable pub offline_name : Kind → ℕ → Name
offline_name kind z = zone_name kind z ⧺ codes ".off"

-- ---- which names are a device's

-- the digit at a place of a name, times what it is worth
abbrev pub worth_at : Name → ℕ → ℕ → ℕ
worth_at name place worth = (slice_index name place - 48) * worth

-- the zone number in a name: its digits from the fifth byte on
unfoldable pub number_in_name : Name → ℕ
number_in_name name = worth_at name 4 100000 + worth_at name 5 10000 + worth_at name 6 1000 + worth_at name 7 100 + worth_at name 8 10 + worth_at name 9 1

-- one of a zone's two markers
abbrev pub is_marker : Kind → ℕ → Name → Bool
is_marker kind z name = bytes_eq name (read_only_name kind z) || bytes_eq name (offline_name kind z)

-- one of a zone's three files
abbrev pub is_zone_file : Kind → ℕ → Name → Bool
is_zone_file kind z name = bytes_eq name (zone_name kind z) || is_marker kind z name

-- a marker of the zone whose number stands in the name
unfoldable pub is_marker_of : Geometry → Name → Bool
is_marker_of geo name = is_marker (kind_of geo (number_in_name name)) (number_in_name name) name

-- the file `device`, or one of the three of a zone of the device, that whose number stands in the name
unfoldable pub is_name_of : Geometry → Name → Bool
is_name_of geo name = bytes_eq name device_name || (nat_lt (number_in_name name) geo.zones && is_zone_file (kind_of geo (number_in_name name)) (number_in_name name) name)
