-- Laws of the texts and names of a device, and of what directories stand for. (own)
use Rattle.std.specs.Prelude.{◌≡◌, ◌↔◌, ℕ, ◌≤◌, List, Ok, IsTrue}
use Rattle.zn_truth.specs.Truth.{Truth, geometry}
use Rattle.zn_truth.specs.Limits.{IsWithinLimits}
use Rattle.zn_stand.specs.declared.numbers.Geometry.{Geometry}
use Rattle.zn_stand.specs.Maps.{Name}
use Rattle.zn_stand.specs.Directory.{Contents}
use Rattle.zn_stand.specs.ZoneNames.{geometry_of_device, is_name_of}
use Rattle.zn_stand.specs.DeviceText.{device_text, text_read, is_within}
use Rattle.zn_stand.specs.Standing.{IsNameOf, StandsFor}
use Rattle.zn_stand.specs.AtRest.{at_rest, IsDeviceAtRest}

-- the test of the limits is the limits, with at most as many conventional zones as zones
abbrev pub LimitsAreTested : Type 0
LimitsAreTested = (geo : Geometry) → IsTrue (is_within geo) ↔ ((geo.conv ≤ geo.zones) × IsWithinLimits (geometry_of_device geo))

-- A text is read as a geometry exactly where it is the geometry's text, and that is within the limits.
abbrev pub TextsAreRead : Type 0
TextsAreRead = (text : List ℕ) (geo : Geometry) → (text_read text ≡ Ok geo) ↔ ((text ≡ device_text geo) × IsTrue (is_within geo))

-- the test of a name tells the names of a device
abbrev pub NamesAreTested : Type 0
NamesAreTested = (t : Truth) (geo : Geometry) (name : Name) → geometry t ≡ geometry_of_device geo → IsTrue (is_within geo) → IsTrue (is_name_of geo name) ↔ IsNameOf t name

-- The device at rest is the one that the directory stands for: it stands for it, and for no other at rest.
pub record RestIsStanding : Type 0 where
  pub stands : (c : Contents) (t : Truth) → at_rest c ≡ Ok t → StandsFor c t
  pub is_sound : (c : Contents) (t : Truth) → at_rest c ≡ Ok t → IsDeviceAtRest t
  pub only : (c : Contents) (t : Truth) → StandsFor c t → IsDeviceAtRest t → at_rest c ≡ Ok t
