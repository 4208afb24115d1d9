-- Causes of what a volume's calls answer.
use Rattle.std.proofs.Common.{◌≡◌, ℕ, ◌≤◌, Bool, true, false, not, List, take, Result, Ok, Err, refl, sym, ap, ◌∙◌, subst, arith}
use Rattle.std.specs.Prelude.{IsErrOf}
use Rattle.std.proofs.lemmas.Bool.{false≢true, not-false}
use Rattle.zn_base.specs.Causes.{Rose}
use Rattle.zn_truth.specs.declared.DevError.{DevError}
use Rattle.zn_truth.specs.declared.DevError.TheVariants.{PowerLost, Broken as dev_broken, Memory as dev_memory}
use Rattle.zn_truth.specs.Orders.{Order, Reply}
use Rattle.zn_truth.specs.World.{World, geometry_of}
use Rattle.zn_truth.specs.Obeying.{is_answered, IsAnswered}
use Rattle.zn_device.specs.States.{DeviceState, Caused, Ordered}
use Rattle.zn_device.proofs.Ordered.{ordered_none, failed_powered}
use Rattle.zn_model.specs.declared.files.Policy.{Policy}
use Rattle.zn_model.specs.declared.answers.Refusal.{Refusal}
use Rattle.zn_model.specs.declared.answers.Refusal.TheVariants.{IoError, Broken, Memory}
use Rattle.zn_model.specs.Recovery.{is_passed_on, refusal_of, report_of}
use Rattle.zn_model.specs.Volume.{Inodes, file_at}
use Rattle.zn_io.specs.Findings.{Recovers, told_by}
use Rattle.zn_volume.specs.Means.{is_spoiling, spoils, without_value, as_read}
use Rattle.zn_volume.specs.Refusals.{is_failure, fails}
use Rattle.zn_volume.specs.Causes.{AreLeft, CallCause, RecoveryCause}
use Rattle.zn_volume.proofs.Waiting.{left_then, none_used, issue_leaves, orders_leave}

-- ---- which refusals spoil

pub spoils_alike : (error : DevError) → is_spoiling (refusal_of error) ≡ not (is_answered (Err error))
spoils_alike dev_broken = refl
spoils_alike _ = refl

-- a failure that is not passed on is answered
answered_here : (error : DevError) → is_passed_on error ≡ false → is_answered (Err error) ≡ true
answered_here dev_broken h = absurd (cc)
answered_here dev_memory h = absurd (cc)
answered_here _ h = refl

from_broken : (error : DevError) → refusal_of error ≡ Broken → error ≡ dev_broken
from_broken dev_broken h = refl
from_broken _ h = absurd (cc)

from_memory : (error : DevError) → refusal_of error ≡ Memory → error ≡ dev_memory
from_memory dev_memory h = refl
from_memory _ h = absurd (cc)

err_same : {X : Type 0} (a b : Refusal) → let r : Result X Refusal = Err a in r ≡ Err b → a ≡ b
err_same a b h = cc

-- an answer that spoils nothing is no refusal that spoils
unspoiling : {X : Type 0} (result : Result X Refusal) (refusal : Refusal) → spoils result ≡ false → is_spoiling refusal ≡ true → IsErrOf result refusal → ⊥
unspoiling {X = X} result refusal told is h = false≢true (sym told ∙ ap (λ (r : Result X Refusal). spoils r) h ∙ is)

-- ---- calls

-- what a reply of the device has for causes, the call that tells it has
caused_call : {X : Type 0} (reply : Reply) (result : Result X Refusal) (old new : DeviceState) → Caused reply old new
    → geometry_of new.world ≡ geometry_of old.world → (IsAnswered reply → AreLeft new.world.pending old.world.pending) → spoils result ≡ not (is_answered reply)
    → (IsErrOf result Broken → IsErrOf reply dev_broken) → (IsErrOf result Memory → IsErrOf reply dev_memory) → CallCause result old new
caused_call reply result old new h geometry waits alike broken wanting = record {
  spoilt = h.spoilt ∙ sym alike;
  memory = h.same;
  keeps = h.keeps;
  free = λ none is. h.memory none (wanting is);
  later = h.cause.later;
  no_fewer = h.cause.no_fewer;
  broken = λ is. h.cause.broken (broken is);
  whole = λ told. h.cause.whole (not-false (is_answered reply) (sym alike ∙ told));
  powered = λ is. h.powered (broken is);
  still_powered = λ is. h.still_powered (broken is);
  left = λ told. waits (not-false (is_answered reply) (sym alike ∙ told));
  no_fault = λ told. h.no_fault (not-false (is_answered reply) (sym alike ∙ told));
  geometry = geometry;
}

-- what isn't a failure doesn't spoil
told_unspoiling : (refusal : Refusal) → is_failure refusal ≡ false → is_spoiling refusal ≡ false
told_unspoiling Broken h = absurd (cc)
told_unspoiling Memory h = absurd (cc)
told_unspoiling _ h = refl

unfailing : {X : Type 0} (result : Result X Refusal) → fails result ≡ false → spoils result ≡ false
unfailing (Ok value) h = refl
unfailing (Err refusal) h = told_unspoiling refusal h

-- commands that were done or answered a limit
pub answered_caused : {X : Type 0} (orders : List Order) (reply : Reply) (result : Result X Refusal) (old new : DeviceState)
    → Ordered orders reply old new → is_answered reply ≡ true → spoils result ≡ false → CallCause result old new
answered_caused orders reply result old new h answered told =
    caused_call reply result old new h.caused h.obeys.geometry (orders_leave orders reply old.world new.world h.obeys) (told ∙ sym (ap not answered))
    (λ is. absurd (unspoiling result Broken told refl is)) (λ is. absurd (unspoiling result Memory told refl is))

-- a call that leaves the device alone
pub still_caused : {X : Type 0} (result : Result X Refusal) (s : DeviceState) → s.spoilt ≡ false → spoils result ≡ false → CallCause result s s
still_caused result s unspoilt told = answered_caused _ (Ok tt) result s s (ordered_none s unspoilt) refl told

-- a call whose checks gave the answer
pub checked_caused : {X : Type 0} (result : Result X Refusal) (s : DeviceState) → s.spoilt ≡ false → fails result ≡ false → CallCause result s s
checked_caused result s unspoilt told = still_caused result s unspoilt (unfailing result told)

-- a command whose failure is told
pub told_caused : {X : Type 0} (orders : List Order) (error : DevError) (old new : DeviceState) → Ordered orders (Err error) old new → CallCause {X = X} (Err (refusal_of error)) old new
told_caused orders error old new h =
    caused_call (Err error) (Err (refusal_of error)) old new h.caused h.obeys.geometry (orders_leave orders (Err error) old.world new.world h.obeys) (spoils_alike error)
    (λ is. ap (λ (e : DevError). let r : Reply = Err e in r) (from_broken error (err_same _ _ is)))
    (λ is. ap (λ (e : DevError). let r : Reply = Err e in r) (from_memory error (err_same _ _ is)))

-- ---- results alike

spoils_same : {X Y : Type 0} (a : Result X Refusal) (b : Result Y Refusal) → without_value b ≡ without_value a → spoils b ≡ spoils a
spoils_same a b same = sym (bare b) ∙ ap (λ (r : Result (Unit {0}) Refusal). spoils r) same ∙ bare a
  where
    bare : {Z : Type 0} (r : Result Z Refusal) → spoils (without_value r) ≡ spoils r
    bare (Ok value) = refl
    bare (Err refusal) = refl

tells_same : {X Y : Type 0} (a : Result X Refusal) (b : Result Y Refusal) (refusal : Refusal) → without_value b ≡ without_value a → IsErrOf b refusal → IsErrOf a refusal
tells_same (Ok x) (Ok y) refusal same is = absurd (cc)
tells_same (Ok x) (Err e) refusal same is = absurd (cc)
tells_same (Err d) (Ok y) refusal same is = absurd (cc)
tells_same (Err d) (Err e) refusal same is = ap (λ (r : Refusal). Err r) (sym (err_same e d same) ∙ err_same e refusal is)

-- a result that differs in its value alone
pub same_cause : {X Y : Type 0} {a : Result X Refusal} {b : Result Y Refusal} {old new : DeviceState} → without_value b ≡ without_value a → CallCause a old new → CallCause b old new
same_cause {a = a} {b = b} same h =
    let alike = spoils_same a b same in
    record {
      spoilt = h.spoilt ∙ sym alike;
      memory = h.memory;
      keeps = h.keeps;
      free = λ none is. h.free none (tells_same a b Memory same is);
      later = h.later;
      no_fewer = h.no_fewer;
      broken = λ is. h.broken (tells_same a b Broken same is);
      whole = λ told. h.whole (sym alike ∙ told);
      powered = λ is. h.powered (tells_same a b Broken same is);
      still_powered = λ is. h.still_powered (tells_same a b Broken same is);
      left = λ told. h.left (sym alike ∙ told);
      no_fault = λ told. h.no_fault (sym alike ∙ told);
      geometry = h.geometry;
    }

-- a read that is told with its bytes
pub as_read_cause : (result : Result ℕ Refusal) (out : List ℕ) {old new : DeviceState} → CallCause result old new → CallCause (as_read result out) old new
as_read_cause (Ok n) out h = same_cause {a = Ok n} {b = Ok (take n out)} refl h
as_read_cause (Err refusal) out h = same_cause {a = Err refusal} {b = Err refusal} refl h

-- a call that only looks
pub look_cause : {X : Type 0} {result : Result X Refusal} {old : DeviceState} → spoils result ≡ false → old.spoilt ≡ false → CallCause result old old
look_cause {result = result} {old = old} told unspoilt = still_caused result old unspoilt told

-- ---- recoveries

rose_on : (a b c : ℕ) → a ≤ b → Rose b c → Rose a c
rose_on a b c h rose = omega arith

not_lost : (error : DevError) → is_passed_on error ≡ false → error ≡ PowerLost → ⊥
not_lost error here is = false≢true (sym here ∙ ap is_passed_on is)

-- commands that failed, and what followed them
pub then_caused : {X : Type 0} (orders : List Order) (error : DevError) (result : Result X Refusal) (old mid new : DeviceState) → is_passed_on error ≡ false
    → Ordered orders (Err error) old mid → CallCause result mid new → CallCause result old new
then_caused orders error result old mid new here h k =
    let answered = answered_here error here in
    let waits = orders_leave orders (Err error) old.world mid.world h.obeys answered in
    record {
      spoilt = k.spoilt;
      memory = k.memory ∙ h.caused.same;
      keeps = k.keeps ∙ h.caused.keeps;
      free = λ none. k.free (h.caused.same ∙ none);
      later = omega (arith, h.caused.cause.later, k.later);
      no_fewer = omega (arith, h.caused.cause.no_fewer, k.no_fewer);
      broken = λ is. rose_on old.breaks mid.breaks new.breaks h.caused.cause.no_fewer (k.broken is);
      whole = λ told. k.whole told ∙ h.caused.cause.whole answered;
      powered = λ is. failed_powered orders error old mid h answered (not_lost error here);
      still_powered = k.still_powered;
      left = λ told. left_then old.world.pending mid.world.pending new.world.pending waits (k.left told);
      no_fault = λ told same.
          let still = none_used old.world.pending mid.world.pending new.world.pending waits (k.left told) same in
          k.no_fault told (same ∙ sym still) ∙ h.caused.no_fault answered still;
      geometry = k.geometry ∙ h.obeys.geometry;
    }

-- a failed command, and what followed it
pub failed_caused : {X : Type 0} (orders : List Order) (error : DevError) (refusal : Refusal) (old mid new : DeviceState)
    → RecoveryCause error refusal mid new → Ordered orders (Err error) old mid → CallCause {X = X} (Err refusal) old new
failed_caused {X = X} orders error refusal old mid new recovery h = elim (is_passed_on error) as (λ (b : Bool). is_passed_on error ≡ b → CallCause {X = X} (Err refusal) old new) [
  | true ↦ λ passed.
      let told : CallCause {X = X} (Err (refusal_of error)) old mid = told_caused orders error old mid h in
      subst (λ (s : DeviceState). CallCause {X = X} (Err refusal) old s) (sym (recovery.still passed))
      (subst (λ (r : Refusal). CallCause {X = X} (Err r) old mid) (sym (recovery.passed_on passed)) told)
  | false ↦ λ here. then_caused orders error (Err refusal) old mid new here h (same_cause refl (recovery.caused here))
] refl

-- the report that follows a failure, where it is answered
pub report_answered : {X : Type 0} (after_read : Bool) (policy : Policy) (f : ℕ) (changed : Bool) (result : Result X Refusal) (old new : DeviceState) (before after : Inodes)
    → Recovers after_read policy f (Ok changed) old new before after → spoils result ≡ false → CallCause result old new
report_answered after_read policy f changed result old new before after step told =
    let answered : is_answered step.reported.reply ≡ true = sym step.reported.alike in
    caused_call step.reported.reply result old new step.reported.caused step.geometry (λ _. waits) (told ∙ sym (ap not answered))
    (λ is. absurd (unspoiling result Broken told refl is)) (λ is. absurd (unspoiling result Memory told refl is))
  where
    waits : AreLeft new.world.pending old.world.pending
    waits = subst (λ (w : World). AreLeft w.pending old.world.pending) (sym (step.world refl)) (issue_leaves old.world (report_of (file_at before f)))

-- and where it fails in a way that is passed on
pub report_lost : {X : Type 0} (after_read : Bool) (policy : Policy) (f : ℕ) (error : DevError) (old new : DeviceState) (before after : Inodes)
    → Recovers after_read policy f (Err error) old new before after → CallCause {X = X} (Err (refusal_of error)) old new
report_lost after_read policy f error old new before after step =
    caused_call step.reported.reply (Err (refusal_of error)) old new step.reported.caused step.geometry
    (λ answered. subst (λ (w : World). AreLeft w.pending old.world.pending) (sym (step.world (step.reported.alike ∙ answered))) (issue_leaves old.world (report_of (file_at before f))))
    (spoils_alike error ∙ ap not step.reported.alike)
    (λ is. step.reported.told dev_broken (ap (λ (e : DevError). let r : Reply = Err e in r) (from_broken error (err_same _ _ is))))
    (λ is. step.reported.told dev_memory (ap (λ (e : DevError). let r : Reply = Err e in r) (from_memory error (err_same _ _ is))))

-- either
reported_caused : (after_read : Bool) (policy : Policy) (f : ℕ) (result : Result Bool DevError) (refusal : Refusal) (old new : DeviceState) (before after : Inodes)
    → Recovers after_read policy f result old new before after → is_spoiling refusal ≡ false → CallCause {X = Unit {0}} (Err (told_by result refusal)) old new
reported_caused after_read policy f (Ok changed) refusal old new before after step told = report_answered after_read policy f changed (Err refusal) old new before after step told
reported_caused after_read policy f (Err error) refusal old new before after step told = report_lost after_read policy f error old new before after step

-- what is passed on is no `io-error`
not_io : (error : DevError) → is_passed_on error ≡ true → refusal_of error ≡ IoError → ⊥
not_io PowerLost h is = cc
not_io dev_broken h is = cc
not_io dev_memory h is = cc
not_io _ h is = absurd (cc)

told_io : (after_read : Bool) (policy : Policy) (f : ℕ) (result : Result Bool DevError) (refusal : Refusal) (old new : DeviceState) (before after : Inodes)
    → Recovers after_read policy f result old new before after → told_by result refusal ≡ IoError → refusal ≡ IoError
told_io after_read policy f (Ok changed) refusal old new before after step is = is
told_io after_read policy f (Err error) refusal old new before after step is = absurd (not_io error step.reported.passed_on is)

pub recovery_caused : (after_read : Bool) (policy : Policy) (f : ℕ) (error : DevError) (result : Result Bool DevError) (refusal : Refusal) (old new : DeviceState) (before after : Inodes)
    → Recovers after_read policy f result old new before after → is_passed_on error ≡ false → refusal ≡ told_by result (refusal_of error) → RecoveryCause error refusal old new
recovery_caused after_read policy f error result refusal old new before after step here is = record {
  passed_on = λ passed. absurd (false≢true (sym here ∙ passed));
  still = λ passed. absurd (false≢true (sym here ∙ passed));
  io_error = λ io. told_io after_read policy f result (refusal_of error) old new before after step (sym is ∙ io);
  caused = λ _. subst (λ (r : Refusal). CallCause {X = Unit {0}} (Err r) old new) (sym is)
      (reported_caused after_read policy f result (refusal_of error) old new before after step (spoils_alike error ∙ ap not (answered_here error here)));
}

-- nothing follows where the failure is passed on
pub passed_caused : (error : DevError) (s : DeviceState) → is_passed_on error ≡ true → RecoveryCause error (refusal_of error) s s
passed_caused error s passed = record { passed_on = λ _. refl; still = λ _. refl; io_error = λ io. io; caused = λ here. absurd (false≢true (sym here ∙ passed)) }
