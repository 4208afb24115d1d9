-- What a line's answer says of the device.
use Rattle.std.proofs.Common.{◌≡◌, Bool, true, false, Result, Ok, Err, refl, sym, ap, ◌∙◌, inl, inr, ⊎_elim, arith}
use Rattle.std.specs.Prelude.{IsErrOf}
use Rattle.std.proofs.lemmas.Bool.{false≢true}
use Rattle.zn_truth.specs.World.{geometry_of}
use Rattle.zn_device.specs.States.{DeviceState}
use Rattle.zn_model.specs.declared.answers.FormatError.TheVariants.{Broken as format_broken, Memory as format_starved}
use Rattle.zn_model.specs.declared.answers.MountError.{MountError}
use Rattle.zn_model.specs.declared.answers.MountError.TheVariants.{Broken as mount_broken, Memory as mount_starved}
use Rattle.zn_model.specs.declared.answers.Refusal.{Refusal}
use Rattle.zn_model.specs.declared.answers.Refusal.TheVariants.{Broken as HasBroken, Memory as Starved}
use Rattle.zn_model.specs.declared.files.MountOpts.{MountOpts}
use Rattle.zn_mkfs.specs.Commands.{FormatReply}
use Rattle.zn_mkfs.specs.Formats.{FormatCause}
use Rattle.zn_volume.specs.Causes.{CallCause}
use Rattle.zn_volume.specs.Means.{spoils}
use Rattle.zn_volume.specs.Mounts.{IsMounted, MountCause}
use Rattle.zn_volume.specs.VolumeState.{VolumeState}
use Rattle.zn_session.specs.Steps.{LineCause, format_tells, mount_tells}

-- a flag that is true, or isn't
pub flag_cases : {P : Type 0} (flag : Bool) → (flag ≡ true → P) → (flag ≡ false → P) → P
flag_cases true here other = here refl
flag_cases false here other = other refl

-- ---- calls

-- want of memory comes only over a device whose commands take some
pub takes_some : {answer : Result (Unit {0}) Refusal} {old new : DeviceState} → CallCause answer old new → IsErrOf answer Starved → old.takes_memory ≡ true
takes_some {old = old} cause told = flag_cases old.takes_memory (λ is. is) (λ none. absurd (cause.free none told))

pub call_causes : (itself : Bool) {answer : Result (Unit {0}) Refusal} {old new : DeviceState} → CallCause answer old new → LineCause itself answer old new
call_causes itself cause = record {
  unspoilt = λ goes. cause.spoilt ∙ goes;
  memory = cause.memory;
  starved = λ told. inr (takes_some cause told);
  takes = λ told. inl (takes_some cause told);
  no_fewer = cause.no_fewer;
  broken = cause.broken;
  whole = cause.whole;
  powered = cause.powered;
  still_powered = cause.still_powered;
  geometry = cause.geometry;
}

-- a line that leaves the device
pub still_causes : (itself : Bool) (d : DeviceState) → d.spoilt ≡ false → LineCause itself (Ok tt) d d
still_causes itself d unspoilt = record {
  unspoilt = λ _. unspoilt;
  memory = refl;
  starved = λ told. absurd cc;
  takes = λ told. absurd cc;
  no_fewer = omega arith;
  broken = λ told. absurd cc;
  whole = λ _. refl;
  powered = λ told. absurd cc;
  still_powered = λ told. absurd cc;
  geometry = refl;
}

-- a call that is refused without a command
pub refused_causes : (itself : Bool) (refusal : Refusal) (d : DeviceState) → spoils {X = Unit {0}} (Err refusal) ≡ false → d.spoilt ≡ false → LineCause itself (Err refusal) d d
refused_causes itself refusal d mild unspoilt = record {
  unspoilt = λ _. unspoilt;
  memory = refl;
  starved = λ told. inl refl;
  takes = λ told. absurd (false≢true (sym mild ∙ ap spoils told));
  no_fewer = omega arith;
  broken = λ told. absurd (false≢true (sym mild ∙ ap spoils told));
  whole = λ _. refl;
  powered = λ told. absurd (false≢true (sym mild ∙ ap spoils told));
  still_powered = λ told. absurd (false≢true (sym mild ∙ ap spoils told));
  geometry = refl;
}

-- ---- formats

-- what a format's answer tells
abbrev pub format_told : FormatReply → Result (Unit {0}) Refusal
format_told (Ok unit) = Ok tt
format_told (Err error) = format_tells error

format_is_broken : (result : FormatReply) → IsErrOf (format_told result) HasBroken → IsErrOf result format_broken
format_is_broken (Ok unit) told = absurd cc
format_is_broken (Err format_broken) told = refl
format_is_broken (Err format_starved) told = absurd cc
format_is_broken (Err _) told = absurd cc

format_is_starved : (result : FormatReply) → IsErrOf (format_told result) Starved → IsErrOf result format_starved
format_is_starved (Ok unit) told = absurd cc
format_is_starved (Err format_broken) told = absurd cc
format_is_starved (Err format_starved) told = refl
format_is_starved (Err _) told = absurd cc

format_unspoilt : {result : FormatReply} {old new : DeviceState} → FormatCause result old new → spoils (format_told result) ≡ false → new.spoilt ≡ false
format_unspoilt {new = new} cause goes = flag_cases new.spoilt
    (λ spoilt. absurd (⊎_elim (λ broken. false≢true (sym goes ∙ ap (λ (r : FormatReply). spoils (format_told r)) broken)) (λ starved. false≢true (sym goes ∙ ap (λ (r : FormatReply). spoils (format_told r)) starved)) (cause.spoiling spoilt)))
    (λ unspoilt. unspoilt)

pub format_causes : {result : FormatReply} {old new : DeviceState} → FormatCause result old new → geometry_of new.world ≡ geometry_of old.world → LineCause true (format_told result) old new
format_causes {result = result} cause geometry = record {
  unspoilt = format_unspoilt cause;
  memory = cause.takes_memory;
  starved = λ told. cause.memory (format_is_starved result told);
  takes = λ told. inr refl;
  no_fewer = cause.no_fewer;
  broken = λ told. cause.broken (format_is_broken result told);
  whole = λ goes. cause.whole (format_unspoilt cause goes);
  powered = λ told. cause.powered (format_is_broken result told);
  still_powered = λ told. cause.still_powered (format_is_broken result told);
  geometry = geometry;
}

pub format_goes : {result : FormatReply} {old new : DeviceState} → FormatCause result old new → spoils (format_told result) ≡ false → new.spoilt ≡ false
format_goes = format_unspoilt

-- ---- mounts

mount_is_broken : (why : MountError) → IsErrOf (mount_tells why) HasBroken → why ≡ mount_broken
mount_is_broken mount_broken told = refl
mount_is_broken mount_starved told = absurd cc
mount_is_broken _ told = absurd cc

mount_is_starved : (why : MountError) → IsErrOf (mount_tells why) Starved → why ≡ mount_starved
mount_is_starved mount_broken told = absurd cc
mount_is_starved mount_starved told = refl
mount_is_starved _ told = absurd cc

pub mount_goes : {opts : MountOpts} {why : MountError} {old new : DeviceState} → MountCause opts why old new → spoils (mount_tells why) ≡ false → new.spoilt ≡ false
mount_goes {new = new} cause goes = flag_cases new.spoilt
    (λ spoilt. absurd (⊎_elim (λ broken. false≢true (sym goes ∙ ap (λ e. spoils (mount_tells e)) broken)) (λ starved. false≢true (sym goes ∙ ap (λ e. spoils (mount_tells e)) starved)) (cause.spoiling spoilt)))
    (λ unspoilt. unspoilt)

-- a mount that goes on is not starved
pub mount_not_starved : (why : MountError) → spoils (mount_tells why) ≡ false → why ≡ mount_starved → ⊥
mount_not_starved why goes starved = false≢true (sym goes ∙ ap (λ e. spoils (mount_tells e)) starved)

pub mount_causes : {opts : MountOpts} {why : MountError} {old new : DeviceState} → MountCause opts why old new → LineCause true (mount_tells why) old new
mount_causes {why = why} {old = old} cause = record {
  unspoilt = mount_goes cause;
  memory = cause.memory;
  starved = λ told. flag_cases old.takes_memory (λ some. inr some) (λ none. inl (cause.free none (mount_is_starved why told)));
  takes = λ told. inr refl;
  no_fewer = cause.no_fewer;
  broken = λ told. cause.broken (mount_is_broken why told);
  whole = λ goes. cause.whole (mount_goes cause goes);
  powered = λ told. cause.powered (mount_is_broken why told);
  still_powered = λ told. cause.still_powered (mount_is_broken why told);
  geometry = cause.geometry;
}

pub mounted_causes : {opts : MountOpts} {old : DeviceState} {new : VolumeState} → old.spoilt ≡ false → IsMounted opts old new → LineCause true (Ok tt) old new.device
mounted_causes unspoilt is = record {
  unspoilt = λ _. ap (λ (d : DeviceState). d.spoilt) is.device ∙ unspoilt;
  memory = ap (λ (d : DeviceState). d.takes_memory) is.device;
  starved = λ told. absurd cc;
  takes = λ told. absurd cc;
  no_fewer = omega (arith, ap (λ (d : DeviceState). d.breaks) is.device);
  broken = λ told. absurd cc;
  whole = λ _. ap (λ (d : DeviceState). d.breaks) is.device;
  powered = λ told. absurd cc;
  still_powered = λ told. absurd cc;
  geometry = is.geometry;
}
