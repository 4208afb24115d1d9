-- What a report finds.
use Rattle.std.proofs.Common.{◌≡◌, Bool, true, false, List, Ok, Err, refl, ap, ◌∙◌, subst}
use Rattle.std.specs.Prelude.{if◌then◌else◌, IsOk, IsErrOf, IfErr, IsTrue}
use Rattle.zn_truth.specs.declared.ZoneInfo.{ZoneInfo}
use Rattle.zn_truth.specs.declared.DevError.{DevError}
use Rattle.zn_truth.specs.declared.DevError.TheVariants.{ReadOnly, Offline, Unaligned, TooManyActive, TooManyOpen, BeyondWp, Fault, PowerLost, Broken, Memory}
use Rattle.zn_truth.specs.Orders.{Reply}
use Rattle.zn_truth.specs.Obeying.{is_answered}
use Rattle.zn_device.specs.States.{DeviceState, Commanded}
use Rattle.zn_model.specs.declared.files.FileZones.{FileZones}
use Rattle.zn_model.specs.declared.files.Found.{Found}
use Rattle.zn_model.specs.ShownStates.{infos_of}
use Rattle.zn_model.specs.Recovery.{found_by, report_of, is_passed_on}
use Rattle.zn_io.specs.Files.{as_reply}
use Rattle.zn_io.specs.Findings.{Finds}

-- what is found is an answer just where the report is
pub answered_alike : (r : Reply) (infos : List ZoneInfo) → is_answered (as_reply (found_by r infos)) ≡ is_answered r
answered_alike (Ok unit) infos = refl
answered_alike (Err ReadOnly) infos = refl
answered_alike (Err Offline) infos = refl
answered_alike (Err Unaligned) infos = refl
answered_alike (Err TooManyActive) infos = refl
answered_alike (Err TooManyOpen) infos = refl
answered_alike (Err BeyondWp) infos = refl
answered_alike (Err Fault) infos = refl
answered_alike (Err PowerLost) infos = refl
answered_alike (Err Broken) infos = refl
answered_alike (Err Memory) infos = refl

-- a report that fails found the same, whatever it told
found_from : (r : Reply) (a b : List ZoneInfo) → (IsOk r → a ≡ b) → found_by r a ≡ found_by r b
found_from (Ok unit) a b h = ap (found_by (Ok unit)) (h refl)
found_from (Err error) a b h = refl

-- an error that is told is the report's
told_if : (b : Bool) (found : Found) (error e : DevError) → IsErrOf (as_reply (if b then Err error else Ok found)) e → let r : Reply = Err error in IsErrOf r e
told_if true found error e is = is
told_if false found error e is = absurd (cc)

told_on : (r : Reply) (infos : List ZoneInfo) (e : DevError) → IsErrOf (as_reply (found_by r infos)) e → IsErrOf r e
told_on (Ok unit) infos e is = absurd (cc)
told_on (Err error) infos e is = told_if (is_passed_on error) _ error e is

passed_if : (b : Bool) (found : Found) (error : DevError) → is_passed_on error ≡ b → IfErr (as_reply (if b then Err error else Ok found)) (λ e. is_passed_on e ≡ true)
passed_if true found error is = is
passed_if false found error is = tt

only_passed : (r : Reply) (infos : List ZoneInfo) → IfErr (as_reply (found_by r infos)) (λ e. is_passed_on e ≡ true)
only_passed (Ok unit) infos = tt
only_passed (Err error) infos = passed_if (is_passed_on error) _ error refl

pub finds : (s t : DeviceState) (file : FileZones) (r : Reply) (infos : List ZoneInfo) → Commanded (report_of file) r s t → (IsOk r → infos ≡ infos_of s.world.truth file)
    → Finds file (found_by r infos) s t
finds s t file r infos h told =
    let alike = answered_alike r infos in
    record {
      found = λ yes. found_from r infos (infos_of s.world.truth file) told
          ∙ ap (λ (q : Reply). found_by q (infos_of s.world.truth file)) (h.obeys.reply (subst IsTrue alike yes));
      world = λ yes. h.obeys.world (subst IsTrue alike yes);
      geometry = h.obeys.geometry;
      reported = record {
        reply = r;
        caused = h.caused;
        alike = alike;
        told = told_on r infos;
        passed_on = only_passed r infos;
      };
    }
