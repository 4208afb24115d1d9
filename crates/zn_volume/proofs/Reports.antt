-- What a report of all zones answers, and leaves.
use Rattle.std.proofs.Common.{◌≡◌, false, true, List, [], ◌∷◌, Result, Ok, Err, refl, sym, ap, ◌∙◌}
use Rattle.std.specs.Prelude.{IsOk, IsErrOf}
use Rattle.std.proofs.lemmas.Bool.{false≢true, not-false}
use Rattle.zn_base.specs.Causes.{Rose}
use Rattle.zn_truth.specs.declared.DevError.{DevError}
use Rattle.zn_truth.specs.declared.DevError.TheVariants.{ReadOnly, Offline, Unaligned, BeyondWp, Fault, PowerLost}
use Rattle.zn_truth.specs.declared.ZoneInfo.{ZoneInfo}
use Rattle.zn_truth.specs.Obeying.{is_answered}
use Rattle.zn_truth.specs.Orders.{Reply}
use Rattle.zn_truth.specs.World.{World, Outcome, issue}
use Rattle.zn_truth.proofs.Failures.{failure_named}
use Rattle.zn_truth.proofs.OrderLists.{no_power}
use Rattle.zn_device.specs.States.{DeviceState, Commanded}
use Rattle.zn_device.proofs.Ordered.{ordered_one}
use Rattle.zn_model.specs.declared.answers.Refusal.{Refusal}
use Rattle.zn_model.specs.declared.answers.Refusal.TheVariants.{IoError}
use Rattle.zn_model.specs.CallAnswers.{Answer}
use Rattle.zn_model.specs.Looks.{all_infos, report_all, after_report, report_call}
use Rattle.zn_model.specs.Recovery.{refusal_of}
use Rattle.zn_model.specs.Volume.{Volume, Mounted}
use Rattle.zn_volume.specs.Causes.{CallCause}
use Rattle.zn_volume.specs.Means.{spoils}
use Rattle.zn_volume.specs.Reports.{as_told, as_reported, Reports}
use Rattle.zn_volume.proofs.Causing.{spoils_alike, answered_caused, told_caused}

err_same : (a b : Refusal) → let r : Result (Unit {0}) Refusal = Err a in r ≡ Err b → a ≡ b
err_same a b h = cc

-- ---- a call

-- without power a report leaves all as it is
pub report_lost : (m : Mounted) → m.world.powered ≡ false → report_call m ≡ after_report (Err PowerLost) (all_infos m.world.truth) m
unfolding report_call
report_lost m off = ap (λ (o : Outcome). after_report o.reply (all_infos m.world.truth) (record m { world = o.world })) (no_power m.world (report_all m.world.truth) off)

report_is : (m : Mounted) → report_call m ≡ after_report (issue m.world (report_all m.world.truth)).reply (all_infos m.world.truth) (record m { world = (issue m.world (report_all m.world.truth)).world })
unfolding report_call
report_is m = refl

reply_told : (r : Reply) (result : Result (Unit {0}) Refusal) (out infos : List ZoneInfo) (m : Mounted) → result ≡ as_told r → (IsOk result → out ≡ infos) → as_reported result out ≡ (after_report r infos m).reply
reply_told (Ok unit) (Ok done) out infos m is told = ap Ok (told refl)
reply_told (Ok unit) (Err refusal) out infos m is told = absurd (cc)
reply_told (Err error) (Ok done) out infos m is told = absurd (cc)
reply_told (Err error) (Err refusal) out infos m is told = ap Err (err_same refusal (refusal_of error) is)

what_is_left : (r : Reply) (infos : List ZoneInfo) (m : Mounted) → (after_report r infos m).mounted ≡ m
what_is_left (Ok unit) infos m = refl
what_is_left (Err error) infos m = refl

module _ {result : Result (Unit {0}) Refusal} {out : List ZoneInfo} {old new : DeviceState} (v : Volume) (h : Reports result out old new) (unspoilt : new.spoilt ≡ false) where
  told : spoils result ≡ false
  told = sym h.cause.spoilt ∙ unspoilt

  pub reported_reply : as_reported result out ≡ (report_call (record { world = old.world; volume = v })).reply
  reported_reply =
      let m : Mounted = record { world = old.world; volume = v } in
      reply_told (issue old.world (report_all old.world.truth)).reply result out (all_infos old.world.truth) (record { world = (issue old.world (report_all old.world.truth)).world; volume = v }) (h.reply told) h.infos
      ∙ ap (λ (a : Answer (List ZoneInfo)). a.reply) (sym (report_is m))

  pub reported_mounted : let after : Mounted = record { world = new.world; volume = v } in after ≡ (report_call (record { world = old.world; volume = v })).mounted
  reported_mounted =
      let m : Mounted = record { world = old.world; volume = v } in
      let after : World → Mounted = λ w. record { world = w; volume = v } in
      ap after (h.world told)
      ∙ sym (what_is_left (issue old.world (report_all old.world.truth)).reply (all_infos old.world.truth) (after (issue old.world (report_all old.world.truth)).world))
      ∙ ap (λ (a : Answer (List ZoneInfo)). a.mounted) (sym (report_is m))

-- ---- causes

reported_caused : (r : Reply) (old new : DeviceState) → Commanded (report_all old.world.truth) r old new → CallCause (as_told r) old new
reported_caused (Ok unit) old new h = answered_caused (report_all old.world.truth ∷ []) (Ok tt) (Ok tt) old new (ordered_one (report_all old.world.truth) (Ok tt) old new h) refl refl
reported_caused (Err error) old new h = told_caused (report_all old.world.truth ∷ []) error old new (ordered_one (report_all old.world.truth) (Err error) old new h)

-- a report that fails: no condition refuses it, so there was a fault
report_cause : (error : DevError) (old new : DeviceState) → Commanded (report_all old.world.truth) (Err error) old new → refusal_of error ≡ IoError → Rose old.faults new.faults
report_cause Fault old new h io = h.caused.cause.fault refl
report_cause ReadOnly old new h io = absurd (failure_named old.world (report_all old.world.truth) ReadOnly (sym (h.obeys.reply refl))).means
report_cause Offline old new h io = absurd (failure_named old.world (report_all old.world.truth) Offline (sym (h.obeys.reply refl))).means
report_cause Unaligned old new h io = absurd (failure_named old.world (report_all old.world.truth) Unaligned (sym (h.obeys.reply refl))).means
report_cause BeyondWp old new h io = absurd (failure_named old.world (report_all old.world.truth) BeyondWp (sym (h.obeys.reply refl))).means
report_cause _ old new h io = absurd (cc)

reported_io : (r : Reply) (old new : DeviceState) → Commanded (report_all old.world.truth) r old new → IsErrOf (as_told r) IoError → Rose old.faults new.faults
reported_io (Ok unit) old new h is = absurd (cc)
reported_io (Err error) old new h is = report_cause error old new h (err_same (refusal_of error) IoError is)

-- ---- a report

-- what spoils nothing was answered
told_answered : (r : Reply) → spoils (as_told r) ≡ false → is_answered r ≡ true
told_answered (Ok unit) told = refl
told_answered (Err error) told = not-false (is_answered (Err error)) (sym (spoils_alike error) ∙ told)

told_ok : (r : Reply) → IsOk (as_told r) → IsOk r
told_ok (Ok unit) ok = ok
told_ok (Err error) ok = absurd (false≢true ok)

pub reports : (r : Reply) (out : List ZoneInfo) (old new : DeviceState) → Commanded (report_all old.world.truth) r old new → (IsOk r → out ≡ all_infos old.world.truth) → Reports (as_told r) out old new
reports r out old new h infos = record {
  reply = λ told. ap as_told (h.obeys.reply (told_answered r told));
  world = λ told. h.obeys.world (told_answered r told);
  infos = λ ok. infos (told_ok r ok);
  io_error = reported_io r old new h;
  cause = reported_caused r old new h;
}
