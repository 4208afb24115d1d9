-- Which directory stands for which device. (own)
use Rattle.std.specs.Prelude.{◌≡◌, ◌⊎◌, ℕ, ◌*◌, ◌<◌, ◌≤◌, Bool, true, ◌&&◌, ◌==◌, nat_le, List, [], length, Option, Some, None, IsTrue, IsSome}
use Rattle.zn_truth.specs.declared.limits.TheConstants.{BLOCK_SIZE}
use Rattle.zn_truth.specs.declared.Kind.{Kind}
use Rattle.zn_truth.specs.declared.Kind.TheVariants.{Conventional, Sequential}
use Rattle.zn_truth.specs.declared.Cond.{Cond}
use Rattle.zn_truth.specs.declared.Cond.TheVariants.{Good, ReadOnly, Offline}
use Rattle.zn_truth.specs.declared.Shape.{Shape}
use Rattle.zn_truth.specs.Truth.{Truth, Zone, geometry, zone_at, is_offline}
use Rattle.zn_stand.specs.declared.numbers.Geometry.{Geometry}
use Rattle.zn_stand.specs.Maps.{Name}
use Rattle.zn_stand.specs.File.{is_in_blocks}
use Rattle.zn_stand.specs.Directory.{Contents, bytes_at}
use Rattle.zn_stand.specs.ZoneNames.{geometry_of_device, device_name, zone_name, read_only_name, offline_name}
use Rattle.zn_stand.specs.DeviceText.{device_text}

-- A conventional zone's file is as long as the zone; a sequential one's has whole blocks, as many as the zone has room
-- for at most.
abbrev pub is_file_length : Shape → Kind → ℕ → Bool
is_file_length shape Conventional len = len == BLOCK_SIZE * shape.zone_blocks
is_file_length shape Sequential len = is_in_blocks len && nat_le len (BLOCK_SIZE * shape.zone_capacity)

-- the file of a zone: the zone's bytes, or, of a zone that is offline, any bytes of a length that may be
pub record IsZoneFile (shape : Shape) (zone : Zone) (file : Option (List ℕ)) : Type 0 where
  pub there : IsSome file
  pub bytes : ¬ IsTrue (is_offline zone.cond) → file ≡ Some zone.bytes
  pub len : (bytes : List ℕ) → IsTrue (is_offline zone.cond) → file ≡ Some bytes → IsTrue (is_file_length shape zone.kind (length bytes))

-- the marker of a zone that is read-only: empty; a zone that went offline keeps the one that it had, if any
abbrev pub IsReadOnlyMarker : Cond → Option (List ℕ) → Type 0
IsReadOnlyMarker Good file = file ≡ None
IsReadOnlyMarker ReadOnly file = file ≡ Some []
IsReadOnlyMarker Offline file = (file ≡ None) ⊎ (file ≡ Some [])

-- the marker of a zone that is offline: empty
abbrev pub IsOfflineMarker : Cond → Option (List ℕ) → Type 0
IsOfflineMarker Good file = file ≡ None
IsOfflineMarker ReadOnly file = file ≡ None
IsOfflineMarker Offline file = file ≡ Some []

-- the name of one of a zone's three files
pub record IsZoneName (t : Truth) (name : Name) : Type 0 where
  pub z : ℕ
  pub there : z < length t.zones
  pub is : (name ≡ zone_name (zone_at t z).kind z) ⊎ ((name ≡ read_only_name (zone_at t z).kind z) ⊎ (name ≡ offline_name (zone_at t z).kind z))

-- the name of a file of the device
abbrev pub IsNameOf : Truth → Name → Type 0
IsNameOf t name = (name ≡ device_name) ⊎ IsZoneName t name

-- What a directory holds stands for a truth: the geometry's text, a file for each zone, the empty markers of zones that
-- aren't good, and nothing else.
pub record StandsFor (c : Contents) (t : Truth) : Type 0 where
  pub told : t.told ≡ true
  pub geo : Geometry
  pub numbers : geometry t ≡ geometry_of_device geo
  pub conv : geo.conv ≤ geo.zones
  pub device : bytes_at c device_name ≡ Some (device_text geo)
  pub zones : (z : ℕ) → z < length t.zones → IsZoneFile t.shape (zone_at t z) (bytes_at c (zone_name (zone_at t z).kind z))
  pub read_only : (z : ℕ) → z < length t.zones → IsReadOnlyMarker (zone_at t z).cond (bytes_at c (read_only_name (zone_at t z).kind z))
  pub offline : (z : ℕ) → z < length t.zones → IsOfflineMarker (zone_at t z).cond (bytes_at c (offline_name (zone_at t z).kind z))
  pub others : (name : Name) → IsSome (bytes_at c name) → IsNameOf t name
