-- Which devices a format refuses. (own)
use Rattle.std.specs.Prelude.{◌≡◌, Bool, true, false, ◌&&◌, is_ok, IsTrue}
use Rattle.zn_truth.specs.Truth.{Truth, zone_at, bytes_at, is_good}
use Rattle.zn_model.specs.declared.answers.FormatError.{FormatError}
use Rattle.zn_model.specs.declared.answers.FormatError.TheVariants.{AlreadyFormatted, BadZone0}
use Rattle.zn_model.specs.Mounting.{super_block_of}
use Rattle.zn_model.specs.Formatting.{may_hold_copies}

-- blocks 0 and 1 of zone 0 are two copies of a super block
abbrev pub holds_super_block : Truth → Bool
holds_super_block t = may_hold_copies t && is_ok (super_block_of (bytes_at t 0 0 2))

-- A format refuses a super block that is there, unless it is forced, and a zone 0 that isn't good, whose condition it
-- tells.
abbrev pub Refuses : Bool → FormatError → Truth → Type 0
Refuses force AlreadyFormatted t =
    IsTrue (is_good (zone_at t 0).cond) × (holds_super_block t ≡ true) × (force ≡ false)
Refuses force (BadZone0 cond) t = ((zone_at t 0).cond ≡ cond) × (is_good cond ≡ false)
Refuses force error t = ⊥
