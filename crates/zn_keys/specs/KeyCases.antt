-- Words behind `add DIR`, worked through.
use Rattle.std.specs.Prelude.{◌≡◌, ℕ, List, [], ◌∷◌, map, Option, Some, None, codes}
use Rattle.zn_stand.specs.declared.numbers.Geometry.{Geometry}
use Rattle.zn_keys.specs.Keys.{geometry_asked}

-- so many zones, of which so many are conventional, of this size and capacity, with these limits
abbrev pub device : ℕ → ℕ → ℕ → ℕ → ℕ → ℕ → Option Geometry
device zones conv blocks capacity opens actives = Some (record {
  zones = zones;
  conv = conv;
  shape = record { zone_blocks = blocks; zone_capacity = capacity; max_open = opens; max_active = actives };
})

-- 64 MiB in zones of 1 MiB, the first eight of them conventional.
abbrev pub MibAsked : Type 0
MibAsked =
    geometry_asked (codes "capacity_mb=64" ∷ codes "zone_size_mb=1" ∷ codes "conv_zones=8" ∷ [])
    ≡ device 64 8 256 256 0 0

-- Sizes in blocks, and a limit.
abbrev pub BlocksAsked : Type 0
BlocksAsked =
    geometry_asked (codes "capacity_blocks=24" ∷ codes "zone_blocks=4" ∷ codes "conv_zones=1" ∷ codes "max_open=2" ∷ [])
    ≡ device 6 1 4 4 2 0

-- A size that is no whole number of zones is rounded up; a capacity below the zone size; the words in another order.
abbrev pub RoundedUp : Type 0
RoundedUp =
    geometry_asked (codes "zone_capacity_blocks=3" ∷ codes "zone_blocks=4" ∷ codes "capacity_blocks=13" ∷ [])
    ≡ device 4 0 4 3 0 0

-- the words of a device of four zones of four blocks, and another word
abbrev pub with_word : List ℕ → List (List ℕ)
with_word word = codes "capacity_blocks=16" ∷ codes "zone_blocks=4" ∷ word ∷ []

-- Another word that is no key; a key without `=`, with no number, with a leading zero, and with two `=`; a number of
-- 33 bits; a size given twice, in one unit and in both; a limit that is broken.
abbrev pub WordsRefused : Type 0
WordsRefused = map (λ word. geometry_asked (with_word word)) (
    codes "size=1" ∷ codes "max_open" ∷ codes "max_open=" ∷ codes "max_open=02" ∷ codes "max_open=2=2"
    ∷ codes "zone_capacity_mb=4294967296" ∷ codes "zone_blocks=4" ∷ codes "capacity_mb=1" ∷ codes "conv_zones=5" ∷ []
    ) ≡ None ∷ None ∷ None ∷ None ∷ None ∷ None ∷ None ∷ None ∷ None ∷ []

-- Either size is missing, or both are.
abbrev pub SizesMissing : Type 0
SizesMissing =
    map geometry_asked ((codes "zone_blocks=4" ∷ []) ∷ (codes "capacity_blocks=16" ∷ []) ∷ [] ∷ [])
    ≡ None ∷ None ∷ None ∷ []
