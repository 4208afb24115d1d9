-- What a look at a directory finds. (own)
use Rattle.std.specs.Prelude.{find, take, IfSome, IsTrue, ◌≤◌, slice_index_or, Result, ◌≡◌, ℕ, ◌/◌, ◌<◌, Bool, false, List, [], length, map, Option, Some, None, Ok, unwrap_or, if◌then◌else◌}
use Rattle.zn_truth.specs.declared.limits.TheConstants.{BLOCK_SIZE}
use Rattle.zn_truth.specs.declared.Kind.{Kind}
use Rattle.zn_truth.specs.declared.Cond.{Cond}
use Rattle.zn_truth.specs.declared.Cond.TheVariants.{Offline}
use Rattle.zn_truth.specs.declared.Shape.{Shape}
use Rattle.zn_truth.specs.declared.ZoneInfo.{ZoneInfo}
use Rattle.zn_truth.specs.Truth.{is_offline, is_active}
use Rattle.zn_zone.specs.Facts.{ZoneFacts, reported_zone, bare_zone, IsStartZone}
use Rattle.zn_stand.specs.declared.numbers.Geometry.{Geometry}
use Rattle.zn_stand.specs.Maps.{Name}
use Rattle.std.specs.FinMap.{keys}
use Rattle.std.specs.List.{range_with_len}
use Rattle.zn_stand.specs.Directory.{Directory, Contents, bytes_at, contents}
use Rattle.zn_stand.specs.ZoneNames.{kind_of, zone_numbers, device_name, read_only_name, offline_name}
use Rattle.zn_stand.specs.DeviceText.{text_read}
use Rattle.zn_stand.specs.AtRest.{Cause, Lookup, marked, cond_in, zone_bytes, zone_fault, first_fault, first_extra, is_extra}
use Rattle.zn_files.specs.States.{FilesState, directory}
use Rattle.zn_backing.specs.declared.error.OpenError.{OpenError}
use Rattle.zn_backing.specs.Failures.{cause_of}
use Rattle.zn_backing.specs.Steps.{Steps}
use Rattle.zn_backing.specs.Listing.{is_among}

-- the condition that the listed markers of a zone tell
abbrev pub cond_listed : List Name → Kind → ℕ → Cond
cond_listed names kind z = marked (is_among names (offline_name kind z)) (is_among names (read_only_name kind z))

-- what a report tells of a zone of this condition with a file of this length
abbrev pub info_with : Cond → ℕ → ZoneInfo
info_with cond len = record { cond = cond; held = if is_offline cond then 0 else len / BLOCK_SIZE; explicit = false }

-- what a report tells of a zone that a directory holds
abbrev pub info_in : Lookup → Geometry → ℕ → ZoneInfo
info_in held geo z = info_with (cond_in held geo z) (length (zone_bytes held geo z))

-- the contents tell the geometry
pub record HasGeometry (c : Contents) (geo : Geometry) : Type 0 where
  pub text : List ℕ
  pub file : bytes_at c device_name ≡ Some text
  pub read : text_read text ≡ Ok geo

-- a zone with what a report tells of it
abbrev pub started_zone : Geometry → ℕ → ZoneInfo → ZoneFacts
started_zone geo z info = reported_zone (kind_of geo z, info)

-- the names are those of the directory, where contents are told
abbrev pub Lists : List Name → FilesState → Type 0
Lists names s = (d : Directory) → directory s ≡ Some d → names ≡ keys d

-- an error that lies in the directory is this fault
abbrev pub IsFaultOf : OpenError → Option Cause → Type 0
IsFaultOf e fault = IfSome (cause_of e) (λ cause. fault ≡ Some cause)

-- a zone was found: its file has no fault, and this is what a report tells of it
pub record IsZoneFound (c : Contents) (geo : Geometry) (z : ℕ) (info : ZoneInfo) : Type 0 where
  pub fault : zone_fault (bytes_at c) geo z ≡ None
  pub told : info ≡ info_in (bytes_at c) geo z

-- so many zones were found
pub record HasZones (c : Contents) (geo : Geometry) (n : ℕ) (infos : List ZoneInfo) : Type 0 where
  pub faults : first_fault (bytes_at c) geo (range_with_len 0 n) ≡ None
  pub told : infos ≡ map (info_in (bytes_at c) geo) (range_with_len 0 n)

-- a zone of which nothing is told
abbrev pub no_info : ZoneInfo
no_info = info_with Offline 0

-- each of so many zones is as it may be at the start
pub record AreStarted (geo : Geometry) (n : ℕ) (infos : List ZoneInfo) : Type 0 where
  pub count : length infos ≡ n
  pub each : (z : ℕ) → z < n → IsStartZone geo.shape (started_zone geo z (slice_index_or infos z no_info))

-- so many zones were looked at
pub record AreLooked (geo : Geometry) (i : ℕ) (infos : List ZoneInfo) (old new : FilesState) : Type 0 where
  pub steps : Steps {T = Unit {0}} (Ok tt) old new
  pub started : AreStarted geo i infos
  pub zones : (d : Directory) → directory old ≡ Some d → HasZones (contents d) geo i infos

-- the contents tell the geometry, and each zone's file is there and fits
pub record HasFiles (c : Contents) (geo : Geometry) : Type 0 where
  pub geometry : HasGeometry c geo
  pub faults : first_fault (bytes_at c) geo (zone_numbers geo) ≡ None

-- and each name is the device's
pub record HasNames (c : Contents) (geo : Geometry) : Type 0 where
  pub extra : first_extra (bytes_at c) geo (keys c) ≡ None

-- so many names were looked at
pub record ArePlain (geo : Geometry) (names : List Name) (i : ℕ) (old new : FilesState) : Type 0 where
  pub steps : Steps {T = Unit {0}} (Ok tt) old new
  pub plain : (d : Directory) → directory old ≡ Some d → find (is_extra (bytes_at (contents d)) geo) (take i names) ≡ None
