-- The room of a file, and sizes within it.
use Rattle.std.proofs.Common.{◌≡◌, ℕ, ◌-◌, ◌*◌, ◌/◌, ◌^◌, ◌<◌, ◌≤◌, Bool, arith}
use Rattle.std.proofs.lemmas.Bool.Decides.{nat_tests}
use Rattle.std.proofs.lemmas.Nat.{mul-le}
use Rattle.std.specs.Prelude.{not, ◌&&◌, ◌==◌, nat_lt}
use Rattle.zn_truth.specs.declared.limits.TheConstants.{BLOCK_SIZE}
use Rattle.zn_truth.specs.declared.Cond.{Cond}
use Rattle.zn_truth.specs.declared.Cond.TheVariants.{Good, ReadOnly, Offline}
use Rattle.zn_truth.specs.declared.Shape.{Shape}
use Rattle.zn_truth.specs.Truth.{is_good}
use Rattle.zn_model.specs.declared.files.Policy.{Policy}
use Rattle.zn_model.specs.declared.files.Policy.TheVariants.{RemountRo, ZoneRo, ZoneOffline, Repair}
use Rattle.zn_model.specs.declared.files.FileZones.{FileZones}
use Rattle.zn_model.specs.declared.files.Found.{Found}
use Rattle.zn_model.specs.declared.files.Shown.{Shown}
use Rattle.zn_model.specs.ZoneFiles.{room_of, capacity_of}
use Rattle.zn_model.specs.ShownStates.{policy_row}
use Rattle.zn_model.specs.Recovery.{recovered_shown}

pub room_below : (zones room : ℕ) → zones < 2 ^ 32 → room < 2 ^ 32 → zones * room < 2 ^ 64
room_below zones room h k = omega (arith, mul-le zones room (2 ^ 32 - 1) (2 ^ 32 - 1) (omega arith) (omega arith))

-- a row's size is what is held, or stays, or is 0
pub row_within : (policy : Policy) (cond : Cond) (held size most : ℕ) (stays_open : Bool) → held ≤ most → size ≤ most → (policy_row policy cond held size stays_open).size ≤ most
row_within RemountRo Good held size most stays_open h k = h
row_within RemountRo ReadOnly held size most stays_open h k = k
row_within RemountRo Offline held size most stays_open h k = omega arith
row_within ZoneRo Good held size most stays_open h k = h
row_within ZoneRo ReadOnly held size most stays_open h k = k
row_within ZoneRo Offline held size most stays_open h k = omega arith
row_within ZoneOffline Good held size most stays_open h k = omega arith
row_within ZoneOffline ReadOnly held size most stays_open h k = omega arith
row_within ZoneOffline Offline held size most stays_open h k = omega arith
row_within Repair Good held size most stays_open h k = h
row_within Repair ReadOnly held size most stays_open h k = k
row_within Repair Offline held size most stays_open h k = omega arith

-- what a recovery shows is within the room of the file, where what is found and what was shown are
pub recovered_within : (policy : Policy) (found : Found) (shape : Shape) (file : FileZones) (shown : Shown) → found.held ≤ room_of shape file → shown.size ≤ capacity_of shape file
    → (recovered_shown policy found shape file shown).size ≤ capacity_of shape file
recovered_within policy found shape file shown held size =
    row_within policy found.cond (BLOCK_SIZE * found.held) shown.size (capacity_of shape file) (shown.held_open && is_good found.cond && not (found.held == room_of shape file)) (omega (arith, held)) size

-- a size is below a whole number of blocks where its whole blocks are
pub is_below_room : (size room : ℕ) → nat_lt (size / BLOCK_SIZE) room ≡ nat_lt size (BLOCK_SIZE * room)
is_below_room size room = grind (arith, nat_tests)
