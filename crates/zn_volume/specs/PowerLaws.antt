-- Where a call tells that the power is lost. (own)
use Rattle.std.specs.Prelude.{◌≡◌, ◌↔◌, ℕ, false, List, Some, Err}
use Rattle.zn_model.specs.declared.answers.Refusal.TheVariants.{PowerLost}
use Rattle.zn_model.specs.declared.handles.Handle.{Handle}
use Rattle.zn_model.specs.declared.handles.Mode.{Mode}
use Rattle.zn_model.specs.declared.handles.Who.{Who}
use Rattle.zn_model.specs.CallAnswers.{Answer}
use Rattle.zn_model.specs.Volume.{Mounted}
use Rattle.zn_model.specs.Reading.{read_call, size_call}
use Rattle.zn_model.specs.Writing.{write_call}
use Rattle.zn_model.specs.Truncating.{truncate_call, sync_call}
use Rattle.zn_model.specs.OpenClose.{open_call, close_call}
use Rattle.zn_model.specs.Requests.{submit_call, complete_call, reap_call}
use Rattle.zn_model.specs.Looks.{stat_call, entries_call, attr_call, report_call}
use Rattle.zn_model.specs.Mounting.{unmount_refusal}

-- the call is refused for a loss of power exactly where the power is off as it ends
pub record TellsPower {X : Type 0} (answer : Answer X) : Type 0 where
  pub lost : (answer.reply ≡ Err PowerLost) ↔ (answer.mounted.world.powered ≡ false)

-- So is each call, on every mounted volume: whether the power was off before, or went inside one of the call's
-- commands, or inside the report of a recovery.
pub record LossIsToldByCalls : Type 0 where
  pub opens : (m : Mounted) (key : ℕ) (path : List ℕ) (mode : Mode) (who : Who)
      → TellsPower (open_call m key path mode who)
  pub closes : (m : Mounted) (h : Handle) → TellsPower (close_call m h)
  pub size : (m : Mounted) (h : Handle) → TellsPower (size_call m h)
  pub reads : (given : List ℕ) (m : Mounted) (h : Handle) (offset len : ℕ) → TellsPower (read_call given m h offset len)
  pub writes : (m : Mounted) (h : Handle) (offset : ℕ) (bytes : List ℕ) → TellsPower (write_call m h offset bytes)
  pub truncates : (m : Mounted) (h : Handle) (size : ℕ) → TellsPower (truncate_call m h size)
  pub syncs : (m : Mounted) (h : Handle) → TellsPower (sync_call m h)
  pub submits : (m : Mounted) (h : Handle) (offset : ℕ) (bytes : List ℕ) → TellsPower (submit_call m h offset bytes)
  pub completes : (m : Mounted) → TellsPower (complete_call m)
  pub reaps : (m : Mounted) → TellsPower (reap_call m)
  pub stat : (m : Mounted) (path : List ℕ) → TellsPower (stat_call m path)
  pub entries : (m : Mounted) (path : List ℕ) → TellsPower (entries_call m path)
  pub attr : (m : Mounted) → TellsPower (attr_call m)
  pub reports : (m : Mounted) → TellsPower (report_call m)
  pub unmounts : (m : Mounted) → (unmount_refusal m ≡ Some PowerLost) ↔ (m.world.powered ≡ false)
