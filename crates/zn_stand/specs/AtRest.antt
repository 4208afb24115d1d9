-- The device that a directory stands for, or why it stands for none. (own)
use Rattle.std.specs.Prelude.{◌≡◌, ℕ, ◌/◌, ◌<◌, Bool, true, false, ◌&&◌, ◌||◌, not, nat_lt, List, [], ◌∷◌, length, map, replicate, find, Option, Some, None, is_some, unwrap_or, Result, Ok, Err, if◌then◌else◌}
use Rattle.std.specs.Option.{option_or}
use Rattle.std.specs.FinMap.{keys}
use Rattle.zn_truth.specs.declared.limits.TheConstants.{BLOCK_SIZE}
use Rattle.zn_truth.specs.declared.Kind.{Kind}
use Rattle.zn_truth.specs.declared.Cond.{Cond}
use Rattle.zn_truth.specs.declared.Cond.TheVariants.{Good, ReadOnly, Offline}
use Rattle.zn_truth.specs.declared.Shape.{Shape}
use Rattle.zn_truth.specs.Truth.{Truth, Zone, is_sequential, is_offline, active, cleared, IsSound, zone_at, geometry}
use Rattle.zn_truth.specs.Limits.{IsWithinLimits}
use Rattle.zn_stand.specs.declared.numbers.Geometry.{Geometry}
use Rattle.zn_stand.specs.Maps.{Name}
use Rattle.zn_stand.specs.Directory.{Contents, bytes_at}
use Rattle.zn_stand.specs.ZoneNames.{kind_of, zone_numbers, device_name, zone_name, read_only_name, offline_name, is_marker_of, is_name_of}
use Rattle.zn_stand.specs.DeviceText.{text_read}
use Rattle.zn_stand.specs.Standing.{is_file_length}

-- Why a directory stands for no device, in the order in which this is told: there is no file `device`; a line of it,
-- by its number, isn't of its form, or, as line 0, a limit is broken; the file of a zone, by its kind and number, is
-- missing, or has a length that doesn't fit; there is another file, or a marker that isn't empty; more zones are
-- partly written than may be active.
pub data Cause : Type 0 where
  NotADevice : Cause
  BadGeometry : ℕ → Cause
  MissingFile : Kind → ℕ → Cause
  BadZoneFile : Kind → ℕ → ℕ → Cause
  ExtraName : Name → Cause
  TooManyActive : ℕ → Cause

-- what a directory holds at each name
abbrev pub Lookup : Type 0
Lookup = Name → Option (List ℕ)

-- ---- the zones that it holds

-- the condition that the markers tell
abbrev pub marked : Bool → Bool → Cond
marked offline read_only = if offline then Offline else if read_only then ReadOnly else Good

-- the condition of a zone
abbrev pub cond_in : Lookup → Geometry → ℕ → Cond
cond_in held geo z = marked (is_some (held (offline_name (kind_of geo z) z))) (is_some (held (read_only_name (kind_of geo z) z)))

-- the bytes of a zone's file
abbrev pub zone_bytes : Lookup → Geometry → ℕ → List ℕ
zone_bytes held geo z = unwrap_or (held (zone_name (kind_of geo z) z)) []

-- what a zone of this condition has of its file
abbrev pub bytes_left : Cond → List ℕ → List ℕ
bytes_left cond bytes = if is_offline cond then [] else bytes

-- a zone with these bytes, all of them durable
abbrev pub durable_zone : Kind → Cond → List ℕ → Zone
durable_zone kind cond bytes = record {
  kind = kind;
  cond = cond;
  held = length bytes / BLOCK_SIZE;
  bytes = bytes;
  durable = length bytes / BLOCK_SIZE;
  unflushed = replicate (if is_sequential kind then 0 else length bytes / BLOCK_SIZE) false;
  explicit = false;
}

-- a zone that the directory holds
abbrev pub zone_in : Lookup → Geometry → ℕ → Zone
zone_in held geo z = durable_zone (kind_of geo z) (cond_in held geo z) (bytes_left (cond_in held geo z) (zone_bytes held geo z))

-- the device that it holds
abbrev pub truth_in : Lookup → Geometry → Truth
truth_in held geo = record { told = true; shape = geo.shape; zones = map (zone_in held geo) (zone_numbers geo) }

-- ---- what is wrong with it

-- what is wrong with the file of a zone, if anything is
abbrev pub file_fault : Shape → Kind → ℕ → Option (List ℕ) → Option Cause
file_fault shape kind z None = Some (MissingFile kind z)
file_fault shape kind z (Some bytes) = if is_file_length shape kind (length bytes) then None else Some (BadZoneFile kind z (length bytes))

-- the same of the zone with this number
abbrev pub zone_fault : Lookup → Geometry → ℕ → Option Cause
zone_fault held geo z = file_fault geo.shape (kind_of geo z) z (held (zone_name (kind_of geo z) z))

-- the first fault of these zones
abbrev pub first_fault : Lookup → Geometry → List ℕ → Option Cause
first_fault held geo [] = None
first_fault held geo (z ∷ zs) = option_or (zone_fault held geo z) (first_fault held geo zs)

-- a file that isn't the device's, or a marker that isn't empty
abbrev pub is_extra : Lookup → Geometry → Name → Bool
is_extra held geo name = not (is_name_of geo name) || (is_marker_of geo name && nat_lt 0 (length (unwrap_or (held name) [])))

-- the first such name among these
abbrev pub first_extra : Lookup → Geometry → List Name → Option Name
first_extra held geo names = find (is_extra held geo) names

-- more zones are active than may be
abbrev pub is_over : Truth → Bool
is_over t = nat_lt 0 t.shape.max_active && nat_lt t.shape.max_active (active t)

-- the device, unless too many of its zones are active
abbrev pub within_active : Truth → Result Truth Cause
within_active t = if is_over t then Err (TooManyActive (active t)) else Ok t

-- the device, unless there is another file
abbrev pub unless_extra : Option Name → Truth → Result Truth Cause
unless_extra None t = within_active t
unless_extra (Some name) t = Err (ExtraName name)

-- the device, unless the file of a zone is wrong
abbrev pub unless_fault : Option Cause → Option Name → Truth → Result Truth Cause
unless_fault None extra t = unless_extra extra t
unless_fault (Some cause) extra t = Err cause

-- the device of this geometry, or the first cause
unfoldable pub device_at_rest : Lookup → List Name → Geometry → Result Truth Cause
device_at_rest held names geo = unless_fault (first_fault held geo (zone_numbers geo)) (first_extra held geo names) (truth_in held geo)

-- the same of a geometry that was read, or not
abbrev pub geometry_at_rest : Lookup → List Name → Result Geometry ℕ → Result Truth Cause
geometry_at_rest held names (Ok geo) = device_at_rest held names geo
geometry_at_rest held names (Err line) = Err (BadGeometry line)

-- the same with the bytes of the file `device`
abbrev pub text_at_rest : Lookup → List Name → Option (List ℕ) → Result Truth Cause
text_at_rest held names None = Err NotADevice
text_at_rest held names (Some text) = geometry_at_rest held names (text_read text)

-- the same of a directory by what it holds at each name, and its names in the order of their bytes
abbrev pub lookup_at_rest : Lookup → List Name → Result Truth Cause
lookup_at_rest held names = text_at_rest held names (held device_name)

-- The one sound device that the directory stands for, all of it durable and no zone explicitly open, or the first cause
-- why it stands for none.
unfoldable pub at_rest : Contents → Result Truth Cause
at_rest c = lookup_at_rest (bytes_at c) (keys c)

-- nothing was written that isn't durable, and no zone is explicitly open
pub record IsRestedZone (zone : Zone) : Type 0 where
  pub durable : zone.durable ≡ zone.held
  pub flushed : zone.unflushed ≡ cleared zone.unflushed
  pub closed : zone.explicit ≡ false

-- A sound device within the limits, at rest.
pub record IsDeviceAtRest (t : Truth) : Type 0 where
  pub sound : IsSound t
  pub within : IsWithinLimits (geometry t)
  pub zones : (z : ℕ) → z < length t.zones → IsRestedZone (zone_at t z)
