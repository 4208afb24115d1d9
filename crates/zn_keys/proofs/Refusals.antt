-- What asks for no device.
use Rattle.std.proofs.Common.{◌≡◌, ℕ, ◌+◌, ◌<◌, ◌≤◌, Bool, true, false, cond, List, [], length, Some, None, refl, ap, ◌∙◌, arith}
use Rattle.std.specs.Prelude.{IsTrue}
use Rattle.std.specs.List.{position_or_len, before_first}
use Rattle.std.proofs.lemmas.List.{drop_all}
use Rattle.std.proofs.lemmas.Bool.Decides.{nat_tests}
use Rattle.zn_base.specs.Decimals.{number_in}
use Rattle.zn_base.proofs.DecimalLaws.{number_in-empty}
use Rattle.zn_stand.specs.declared.numbers.Geometry.{Geometry}
use Rattle.zn_stand.specs.declared.numbers.TheConstants.{GREATEST_NUMBER}
use Rattle.zn_stand.specs.DeviceText.{is_within}
use Rattle.zn_stand.proofs.DeviceTexts.{within_held}
use Rattle.zn_keys.specs.Keys.{◌>>=◌, is_equals, setting_named, setting_of, limited}

-- a word without `=` sets nothing
pub without_equals : (word : List ℕ) → position_or_len is_equals word ≡ length word → setting_of word ≡ None
without_equals word none =
    ap (λ value. number_in GREATEST_NUMBER value >>= setting_named (before_first is_equals word)) (drop_all (position_or_len is_equals word + 1) word (omega arith))
    ∙ ap (λ read. read >>= setting_named (before_first is_equals word)) (number_in-empty GREATEST_NUMBER [] refl)

-- ---- limits

refused : (geo : Geometry) (test : Bool) → (IsTrue test → ⊥) → cond test (Some geo) None ≡ None
refused geo true broken = absurd (broken refl)
refused geo false broken = refl

has_blocks : (geo : Geometry) → IsTrue (is_within geo) → 2 ≤ geo.shape.zone_blocks
unfolding is_within
has_blocks geo within = grind (arith, nat_tests, within)

-- zones without blocks
pub without_blocks : (geo : Geometry) → geo.shape.zone_blocks ≡ 0 → limited geo ≡ None
without_blocks geo none = refused geo (is_within geo) (λ within. omega (arith, has_blocks geo within))

-- more zones than a number of 32 bits counts
pub too_many : (geo : Geometry) → GREATEST_NUMBER < geo.zones → limited geo ≡ None
too_many geo many = refused geo (is_within geo) (λ within. omega (arith, (within_held geo within).zones))

-- zones of more blocks than such a number counts
pub too_great : (geo : Geometry) → GREATEST_NUMBER < geo.shape.zone_blocks → limited geo ≡ None
too_great geo great = refused geo (is_within geo) (λ within. omega (arith, (within_held geo within).blocks))

-- zones of a greater capacity than such a number counts
pub too_roomy : (geo : Geometry) → GREATEST_NUMBER < geo.shape.zone_capacity → limited geo ≡ None
too_roomy geo great = refused geo (is_within geo) (λ within. omega (arith, (within_held geo within).capacity))
