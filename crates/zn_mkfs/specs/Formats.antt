-- What a format owes. (own)
use Rattle.std.specs.Prelude.{◌≡◌, ◌↔◌, ◌⊎◌, ℕ, ◌<◌, ◌≤◌, Bool, true, false, List, Ok, IsOk, IsErrOf, IsTrue}
use Rattle.std.specs.List.{All}
use Rattle.zn_base.specs.Causes.{Rose}
use Rattle.zn_truth.specs.declared.Cond.{Cond}
use Rattle.zn_truth.specs.Truth.{Truth, zone_at, is_good}
use Rattle.zn_truth.specs.Orders.{Order, Reply}
use Rattle.zn_device.specs.States.{DeviceState, Ordered}
use Rattle.zn_model.specs.declared.answers.FormatError.TheVariants.{AlreadyFormatted, BadZone0, IoError, PowerLost, Broken, Memory}
use Rattle.zn_model.specs.SuperBlock.{SuperBlock, encoded}
use Rattle.zn_model.specs.Formatting.{format_call}
use Rattle.zn_mkfs.specs.Commands.{FormatReply, is_kept, format_commands, answer_by}

-- For want of memory of its own a format issued no command.
pub record IsUntried (result : FormatReply) (old new : DeviceState) : Type 0 where
  pub why : IsErrOf result Memory
  pub same : new ≡ old

-- The report and the read of blocks 0 and 1 are done, and what was read is a super block that is kept.
pub record IsKept (given : List ℕ) (t : Truth) (force : Bool) (reply : Reply) : Type 0 where
  pub done : reply ≡ Ok tt
  pub good : IsTrue (is_good (zone_at t 0).cond)
  pub kept : IsTrue (is_kept given t force)

-- The report is done, and zone 0 is in this condition, which isn't good.
pub record IsBadZone0 (t : Truth) (cond : Cond) (reply : Reply) : Type 0 where
  pub done : reply ≡ Ok tt
  pub cond_is : cond ≡ (zone_at t 0).cond
  pub bad : is_good cond ≡ false

-- Commands one after another, up to the first that fails, and the answer that tells their end.
pub record Answers (orders : List Order) (given : List ℕ) (t : Truth) (force : Bool) (result : FormatReply)
    (old new : DeviceState) : Type 0 where
  pub reply : Reply
  pub commands : Ordered orders reply old new
  pub answer : result ≡ answer_by given t force reply

-- A format that was begun, where the read of blocks 0 and 1 gave some bytes: unless the device is spoilt, its answer
-- and the device are those of the call; its commands are all done up to the first that fails, whatever that answers;
-- and it refuses exactly a zone 0 that isn't good, and a super block that is kept.
pub record IsFormat (s : SuperBlock) (force : Bool) (result : FormatReply) (old new : DeviceState) : Type 0 where
  pub given : List ℕ
  pub bytes : All (λ byte. byte < 256) given
  pub call : new.spoilt ≡ false → format_call given old.world s force ≡ record { reply = result; world = new.world }
  pub reply : Reply
  pub commands : Ordered (format_commands given old.world.truth (encoded s) force) reply old new
  pub answer : result ≡ answer_by given old.world.truth force reply
  pub already : IsErrOf result AlreadyFormatted ↔ IsKept given old.world.truth force reply
  pub bad_zone0 : (cond : Cond) → IsErrOf result (BadZone0 cond) ↔ IsBadZone0 old.world.truth cond reply

-- Which answer has which cause. Want of memory is the format's own before its first command, or that of a device
-- whose commands take memory.
pub record FormatCause (result : FormatReply) (old new : DeviceState) : Type 0 where
  pub io_error : IsErrOf result IoError → Rose old.faults new.faults
  pub power_lost : (IsErrOf result Memory → ⊥) → IsErrOf result PowerLost ↔ new.world.powered ≡ false
  pub broken : IsErrOf result Broken → Rose old.breaks new.breaks
  pub powered : IsErrOf result Broken → old.world.powered ≡ true
  pub still_powered : IsErrOf result Broken → new.world.powered ≡ true
  pub memory : IsErrOf result Memory → (new ≡ old) ⊎ (old.takes_memory ≡ true)
  pub spoiling : new.spoilt ≡ true → IsErrOf result Broken ⊎ IsErrOf result Memory
  pub later : old.faults ≤ new.faults
  pub kept : IsOk result → new.faults ≡ old.faults
  pub no_fault : new.spoilt ≡ false → new.world.pending ≡ old.world.pending → new.faults ≡ old.faults
  pub no_fewer : old.breaks ≤ new.breaks
  pub whole : new.spoilt ≡ false → new.breaks ≡ old.breaks
  pub takes_memory : new.takes_memory ≡ old.takes_memory
  pub keeps_conditions : new.keeps_conditions ≡ old.keeps_conditions
