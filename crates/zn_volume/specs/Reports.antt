-- What a report of all zones answers. (own)
use Rattle.std.specs.Prelude.{◌≡◌, false, List, Option, None, Result, Ok, Err, IsOk, IsErrOf}
use Rattle.zn_base.specs.Causes.{Rose}
use Rattle.zn_truth.specs.declared.ZoneInfo.{ZoneInfo}
use Rattle.zn_truth.specs.Orders.{Reply}
use Rattle.zn_truth.specs.World.{issue}
use Rattle.zn_device.specs.States.{DeviceState}
use Rattle.zn_model.specs.declared.answers.Refusal.{Refusal}
use Rattle.zn_model.specs.declared.answers.Refusal.TheVariants.{IoError}
use Rattle.zn_model.specs.Looks.{all_infos, report_all}
use Rattle.zn_model.specs.Recovery.{refusal_of}
use Rattle.zn_model.specs.Volume.{Mounted}
use Rattle.zn_volume.specs.Causes.{CallCause}
use Rattle.zn_volume.specs.Means.{spoils}
use Rattle.zn_volume.specs.Refusals.{power_first}

-- the refusal of a report by its checks: without power nothing is reported
abbrev pub report_refusal : Mounted → Option Refusal
report_refusal m = power_first m None

-- a reply of the device, as a call tells it that no recovery follows
abbrev pub as_told : Reply → Result (Unit {0}) Refusal
as_told (Ok unit) = Ok unit
as_told (Err error) = Err (refusal_of error)

-- what a report put into its places
abbrev pub as_reported : Result (Unit {0}) Refusal → List ZoneInfo → Result (List ZoneInfo) Refusal
as_reported (Ok unit) out = Ok out
as_reported (Err refusal) out = Err refusal

-- One report of all zones of a device: it answers what the device does, and leaves it so, unless it answers that the
-- device is broken or that memory is wanting. At Ok the places have what each zone is. `io-error` comes only where
-- there was a fault.
pub record Reports (result : Result (Unit {0}) Refusal) (out : List ZoneInfo) (old new : DeviceState) : Type 0 where
  pub reply : spoils result ≡ false → result ≡ as_told (issue old.world (report_all old.world.truth)).reply
  pub world : spoils result ≡ false → new.world ≡ (issue old.world (report_all old.world.truth)).world
  pub infos : IsOk result → out ≡ all_infos old.world.truth
  pub io_error : IsErrOf result IoError → Rose old.faults new.faults
  pub cause : CallCause result old new
