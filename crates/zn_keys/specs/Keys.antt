-- The keys of the command `add`: the device that its words ask for. Words that ask for none are refused alike.
-- ("admin-guide/blockdev/zoned_loop", options of a new device; sizes in blocks, limits and refusals are own)
use Rattle.std.specs.Prelude.{ℕ, ◌*◌, ◌==◌, Bool, List, [], ◌∷◌, Option, Some, None, unwrap_or, codes, if◌then◌else◌}
use Rattle.std.specs.Int.{div_ceil}
use Rattle.std.specs.List.{before_first, after_first, filter_map}
use Rattle.std.specs.Str.{bytes_eq}
use Rattle.zn_base.specs.Decimals.{number_in}
use Rattle.zn_stand.specs.declared.numbers.Geometry.{Geometry}
use Rattle.zn_stand.specs.declared.numbers.TheConstants.{GREATEST_NUMBER}
use Rattle.zn_stand.specs.DeviceText.{is_within}
use Rattle.zn_keys.specs.declared.given.Given.{Given}
use Rattle.zn_keys.specs.declared.settings.Setting.{Setting}
use Rattle.zn_keys.specs.declared.settings.Setting.TheVariants.{Size, ZoneSize, ZoneCapacity, ConvZones, MaxOpen, MaxActive}

-- one step behind another
infixl 10 ◌>>=◌
-- the second step goes on from the first one's value; where there is none, there is none in the end
abbrev pub ◌>>=◌ : {A B : Type 0} → Option A → (A → Option B) → Option B
None >>= f = None
(Some x) >>= f = f x

-- ---- words

-- so many MiB, in blocks
abbrev pub mib : ℕ → ℕ
mib n = 256 * n

-- what a number sets behind the key of this name; any other name is no key
unfoldable pub setting_named : List ℕ → ℕ → Option Setting
setting_named key n =
    if bytes_eq key (codes "capacity_mb") then Some (Size (mib n))
    else if bytes_eq key (codes "capacity_blocks") then Some (Size n)
    else if bytes_eq key (codes "zone_size_mb") then Some (ZoneSize (mib n))
    else if bytes_eq key (codes "zone_blocks") then Some (ZoneSize n)
    else if bytes_eq key (codes "zone_capacity_mb") then Some (ZoneCapacity (mib n))
    else if bytes_eq key (codes "zone_capacity_blocks") then Some (ZoneCapacity n)
    else if bytes_eq key (codes "conv_zones") then Some (ConvZones n)
    else if bytes_eq key (codes "max_open") then Some (MaxOpen n)
    else if bytes_eq key (codes "max_active") then Some (MaxActive n)
    else None

-- the byte `=`
abbrev pub is_equals : ℕ → Bool
is_equals b = b == 61

-- The setting that a word is: a key, and behind its first `=` a number. Where it has no `=`, nothing stands behind
-- one, and that is no number.
abbrev pub setting_of : List ℕ → Option Setting
setting_of word = number_in GREATEST_NUMBER (after_first is_equals word) >>= setting_named (before_first is_equals word)

-- the settings that words are, in their order, if each word is one
abbrev pub settings_of : List (List ℕ) → Option (List Setting)
settings_of [] = Some []
settings_of (word ∷ words) = do
  setting ← setting_of word
  settings ← settings_of words
  Some (setting ∷ settings)

-- ---- what they give

-- the size of the device, in blocks, where a setting gives it
abbrev pub size_in : Setting → Option ℕ
size_in (Size blocks) = Some blocks
size_in _ = None

-- the size of a zone, in blocks, where a setting gives it
abbrev pub zone_size_in : Setting → Option ℕ
zone_size_in (ZoneSize blocks) = Some blocks
zone_size_in _ = None

-- the capacity of sequential zones, in blocks, where a setting gives it
abbrev pub zone_capacity_in : Setting → Option ℕ
zone_capacity_in (ZoneCapacity blocks) = Some blocks
zone_capacity_in _ = None

-- the number of conventional zones, where a setting gives it
abbrev pub conv_zones_in : Setting → Option ℕ
conv_zones_in (ConvZones zones) = Some zones
conv_zones_in _ = None

-- the limit of open zones, where a setting gives it
abbrev pub max_open_in : Setting → Option ℕ
max_open_in (MaxOpen zones) = Some zones
max_open_in _ = None

-- the limit of active zones, where a setting gives it
abbrev pub max_active_in : Setting → Option ℕ
max_active_in (MaxActive zones) = Some zones
max_active_in _ = None

-- nothing or one value; more are refused
abbrev pub at_most_one : List ℕ → Option (Option ℕ)
at_most_one [] = Some None
at_most_one (n ∷ []) = Some (Some n)
at_most_one (n ∷ m ∷ ns) = None

-- what settings give, each value at most once, whatever its unit
unfoldable pub given_by : List Setting → Option Given
given_by settings = do
  size ← at_most_one (filter_map size_in settings)
  zone_size ← at_most_one (filter_map zone_size_in settings)
  zone_capacity ← at_most_one (filter_map zone_capacity_in settings)
  conv_zones ← at_most_one (filter_map conv_zones_in settings)
  max_open ← at_most_one (filter_map max_open_in settings)
  max_active ← at_most_one (filter_map max_active_in settings)
  Some (record {
    size = size;
    zone_size = zone_size;
    zone_capacity = zone_capacity;
    conv_zones = conv_zones;
    max_open = max_open;
    max_active = max_active;
  })

-- what words give, if each is a setting
abbrev pub given_in : List (List ℕ) → Option Given
given_in words = settings_of words >>= given_by

-- ---- the device

-- a geometry within the limits of a device
abbrev pub limited : Geometry → Option Geometry
limited geo = if is_within geo then Some geo else None

-- The geometry of these two sizes, and of what else is given: as many whole zones as hold the size of the device.
-- Where no capacity is given it is the zone size, and each other number that isn't given is 0.
abbrev pub geometry_with : Given → ℕ → ℕ → Geometry
geometry_with given size zone_size = record {
  zones = div_ceil size zone_size;
  conv = unwrap_or given.conv_zones 0;
  shape = record {
    zone_blocks = zone_size;
    zone_capacity = unwrap_or given.zone_capacity zone_size;
    max_open = unwrap_or given.max_open 0;
    max_active = unwrap_or given.max_active 0;
  };
}

-- the geometry of what is given: both sizes must be
abbrev pub geometry_by : Given → Option Geometry
geometry_by given = do
  size ← given.size
  zone_size ← given.zone_size
  limited (geometry_with given size zone_size)

-- The device that words ask for, if they ask for one.
unfoldable pub geometry_asked : List (List ℕ) → Option Geometry
geometry_asked words = given_in words >>= geometry_by
