-- The causes of what a mount answers.
use Rattle.std.proofs.Common.{◌≡◌, ◌⊎◌, ℕ, ◌<◌, Bool, true, false, List, [], ◌∷◌, ◌++◌, All, Result, Ok, Err, refl, sym, ap, ◌∙◌, subst, inl, inr, arith}
use Rattle.std.specs.Prelude.{IsErrOf, if◌then◌else◌}
use Rattle.std.proofs.lemmas.Bool.{false≢true, not-false, not-true, true_from_ne_false}
use Rattle.std.proofs.lemmas.List.{append-nil}
use Rattle.std.proofs.lemmas.List.Elements.{All-nil}
use Rattle.zn_truth.specs.declared.DevError.{DevError}
use Rattle.zn_truth.specs.declared.DevError.TheVariants.{Fault, PowerLost as dev_lost, Broken as dev_broken, Memory as dev_memory}
use Rattle.zn_truth.specs.Limits.{IsWithinLimits}
use Rattle.zn_truth.specs.Truth.{Truth, geometry, IsSound}
use Rattle.zn_truth.specs.Orders.{Order, Reply}
use Rattle.zn_truth.specs.World.{World}
use Rattle.zn_truth.specs.OrderLists.{issue_all}
use Rattle.zn_truth.specs.Obeying.{is_answered}
use Rattle.zn_device.specs.States.{DeviceState, Ordered}
use Rattle.zn_device.proofs.Power.{loss_is_told_in_all}
use Rattle.zn_model.specs.declared.answers.MountError.{MountError}
use Rattle.zn_model.specs.declared.answers.MountError.TheVariants.{NotFormatted, IoError, PowerLost, Broken, Memory}
use Rattle.zn_model.specs.declared.answers.Why.{Why}
use Rattle.zn_model.specs.declared.files.MountOpts.{MountOpts}
use Rattle.zn_model.specs.SuperBlock.{SuperBlock}
use Rattle.zn_model.specs.Looks.{report_all}
use Rattle.zn_model.specs.Mounting.{mount_error_of, is_zone0_unfull, mount_call}
use Rattle.zn_volume.specs.MountSteps.{found_in, read_copies, looks, closes_of, mount_orders, Finds}
use Rattle.zn_volume.specs.Mounts.{MountCause}
use Rattle.zn_volume.proofs.Finding.{failure_cases, CommandFailed, Unformatted}
use Rattle.zn_volume.proofs.Looks.{one_look_leaves, two_looks_leave}
use Rattle.zn_volume.proofs.MountAnswers.{answer_is}
use Rattle.zn_volume.proofs.Waiting.{orders_leave}
use Rattle.zn_volume.proofs.Zone0.{io_cause}

-- ---- commands that are done

-- what is done changes only the device's world
pub only_world : (orders : List Order) (v w : DeviceState) → v.spoilt ≡ false → Ordered orders (Ok tt) v w → w ≡ record v { world = w.world }
only_world orders v w unspoilt h =
    ap (λ (b : Bool). record w { spoilt = b }) (h.caused.spoilt ∙ sym unspoilt)
    ∙ ap (λ (n : ℕ). let s : DeviceState = record { world = w.world; spoilt = v.spoilt; faults = n; breaks = w.breaks; takes_memory = w.takes_memory; keeps_conditions = w.keeps_conditions } in s) (h.caused.cause.kept refl)
    ∙ ap (λ (n : ℕ). let s : DeviceState = record { world = w.world; spoilt = v.spoilt; faults = v.faults; breaks = n; takes_memory = w.takes_memory; keeps_conditions = w.keeps_conditions } in s) (h.caused.cause.whole refl)
    ∙ ap (λ (b : Bool). let s : DeviceState = record { world = w.world; spoilt = v.spoilt; faults = v.faults; breaks = v.breaks; takes_memory = b; keeps_conditions = w.keeps_conditions } in s) h.caused.same
    ∙ ap (λ (b : Bool). record v { world = w.world; keeps_conditions = b }) h.caused.keeps

-- the power is on where they are done
not_lost : (reply : Reply) → reply ≡ Ok tt → IsErrOf reply dev_lost → ⊥
not_lost reply ok is = cc

not_wanting : (reply : Reply) → reply ≡ Ok tt → IsErrOf reply dev_memory → ⊥
not_wanting reply ok is = cc

pub done_powered : (order : Order) (orders : List Order) (v w : DeviceState) → Ordered (order ∷ orders) (Ok tt) v w → w.world.powered ≡ true
done_powered order orders v w h =
    let told = loss_is_told_in_all order orders (Ok tt) v w h (not_wanting (Ok tt) refl) in
    true_from_ne_false w.world.powered (λ off. not_lost (Ok tt) refl (told.1 off))

-- ---- a device that isn't formatted

looks_leave : (w : World) (t : Truth) (unfull : Bool) → (issue_all w (report_all t ∷ (if unfull then [] else read_copies ∷ []))).reply ≡ Ok tt → (issue_all w (report_all t ∷ (if unfull then [] else read_copies ∷ []))).world ≡ w
looks_leave w t true ok = one_look_leaves w (report_all t) refl ok
looks_leave w t false ok = two_looks_leave w (report_all t) read_copies refl refl ok

-- it stays as it was
left_alone : (given : List ℕ) (cause : Why) (old new : DeviceState) → old.spoilt ≡ false → found_in given old.world.truth ≡ Err cause → Ordered (mount_orders given old.world.truth) (Ok tt) old new → new ≡ old
left_alone given cause old new unspoilt is h =
    let fewer : mount_orders given old.world.truth ≡ looks old.world.truth =
    ap (λ (found : Result SuperBlock Why). looks old.world.truth ++ closes_of found old.world.truth) is ∙ append-nil (looks old.world.truth) in
    let those = subst (λ (orders : List Order). Ordered orders (Ok tt) old new) fewer h in
    let same : new.world ≡ old.world = those.obeys.world refl ∙ looks_leave old.world old.world.truth (is_zone0_unfull old.world.truth) (sym (those.obeys.reply refl)) in
    only_world (mount_orders given old.world.truth) old new unspoilt h ∙ ap (λ (w : World). record old { world = w }) same

err_unlike : (cause : Why) (why : MountError) → why ≡ NotFormatted cause → (why ≡ IoError → ⊥) × ((why ≡ PowerLost → ⊥) × ((why ≡ Broken → ⊥) × (why ≡ Memory → ⊥)))
err_unlike cause why is = (λ io. cc, (λ lost. cc, (λ broken. cc, λ wants. cc)))

same_cause : (a b : Why) → NotFormatted a ≡ NotFormatted b → a ≡ b
same_cause a b h = cc

unformatted_cause : (opts : MountOpts) (given : List ℕ) (cause : Why) (old new : DeviceState) → All (λ (byte : ℕ). byte < 256) given → old.spoilt ≡ false → found_in given old.world.truth ≡ Err cause
    → mount_call given old.world opts ≡ record { reply = Err (NotFormatted cause); world = new.world } → Ordered (mount_orders given old.world.truth) (Ok tt) old new → MountCause opts (NotFormatted cause) old new
unformatted_cause opts given cause old new bytes unspoilt is answer h =
    let not = err_unlike cause (NotFormatted cause) refl in
    let on = done_powered (report_all old.world.truth) _ old new h in
    record {
      given = given;
      bytes = bytes;
      answer = λ _ _. answer;
      wanting = λ _ wants. absurd (not.1.1.1 wants);
      spoiling = λ spoilt. absurd (false≢true (sym h.caused.spoilt ∙ spoilt));
      free = λ _ wants. absurd (not.1.1.1 wants);
      not_formatted = λ other told. is ∙ ap (λ (why : Why). Err why) (same_cause cause other told);
      untouched = λ _ _. left_alone given cause old new unspoilt is h;
      io_error = λ io. absurd (not.0 io);
      lost = λ _. (λ lost. absurd (not.1.0 lost), λ off. absurd (false≢true (sym off ∙ on)));
      memory = h.caused.same;
      keeps = h.caused.keeps;
      later = h.caused.cause.later;
      no_fewer = h.caused.cause.no_fewer;
      broken = λ broken. absurd (not.1.1.0 broken);
      whole = λ _. h.caused.cause.whole refl;
      powered = λ broken. absurd (not.1.1.0 broken);
      still_powered = λ broken. absurd (not.1.1.0 broken);
      left = λ _. orders_leave (mount_orders given old.world.truth) (Ok tt) old.world new.world h.obeys refl;
      no_fault = λ _. h.caused.no_fault refl;
      geometry = h.obeys.geometry;
    }

-- ---- a command that failed

from_lost : (error : DevError) → mount_error_of error ≡ PowerLost → error ≡ dev_lost
from_lost dev_lost h = refl
from_lost _ h = absurd (cc)

from_broken : (error : DevError) → mount_error_of error ≡ Broken → error ≡ dev_broken
from_broken dev_broken h = refl
from_broken _ h = absurd (cc)

from_memory : (error : DevError) → mount_error_of error ≡ Memory → error ≡ dev_memory
from_memory dev_memory h = refl
from_memory _ h = absurd (cc)

never_unformatted : (error : DevError) (cause : Why) → mount_error_of error ≡ NotFormatted cause → ⊥
never_unformatted dev_lost cause h = cc
never_unformatted dev_broken cause h = cc
never_unformatted dev_memory cause h = cc
never_unformatted _ cause h = cc

spoils : (error : DevError) → is_answered (Err error) ≡ false → (mount_error_of error ≡ Broken) ⊎ (mount_error_of error ≡ Memory)
spoils dev_broken h = inl refl
spoils dev_memory h = inr refl
spoils _ h = absurd (cc)

io_answered : (error : DevError) → mount_error_of error ≡ IoError → is_answered (Err error) ≡ true
io_answered dev_broken io = absurd (cc)
io_answered dev_memory io = absurd (cc)
io_answered _ io = refl

err_is : (a b : DevError) → a ≡ b → (let r : Reply = Err a in r) ≡ Err b
err_is a b h = ap (λ (e : DevError). let r : Reply = Err e in r) h

err_back : (a b : DevError) → (let r : Reply = Err a in r) ≡ Err b → a ≡ b
err_back a b h = cc

command_cause : (opts : MountOpts) (given : List ℕ) (error : DevError) (old new : DeviceState) → All (λ (byte : ℕ). byte < 256) given → IsSound old.world.truth → IsWithinLimits (geometry old.world.truth)
    → (is_answered (Err error) ≡ true → mount_call given old.world opts ≡ record { reply = Err (mount_error_of error); world = new.world })
    → Ordered (mount_orders given old.world.truth) (Err error) old new → MountCause opts (mount_error_of error) old new
command_cause opts given error old new bytes sound limits answer h = record {
  given = given;
  bytes = bytes;
  answer = λ unspoilt _. answer (answered unspoilt);
  wanting = λ unspoilt wants. absurd (unspoilt_memory unspoilt (from_memory error wants));
  spoiling = λ spoilt. spoils error (not-true (is_answered (Err error)) (sym h.caused.spoilt ∙ spoilt));
  free = λ none wants. absurd (h.caused.memory none (err_is error dev_memory (from_memory error wants)));
  not_formatted = λ cause told. absurd (never_unformatted error cause told);
  untouched = λ cause told. absurd (never_unformatted error cause told);
  io_error = λ io. elim (io_cause old.world given error sound limits (sym (h.obeys.reply (io_answered error io))) io) [
    | inl fault ↦ inl (h.caused.cause.fault (err_is error Fault fault))
    | inr offline ↦ inr offline
  ];
  lost = λ other.
      let told = loss_is_told_in_all (report_all old.world.truth) _ (Err error) old new h (λ wants. other (ap mount_error_of (err_back error dev_memory wants))) in
      (λ lost. told.0 (err_is error dev_lost (from_lost error lost)), λ off. ap mount_error_of (err_back error dev_lost (told.1 off)));
  memory = h.caused.same;
  keeps = h.caused.keeps;
  later = h.caused.cause.later;
  no_fewer = h.caused.cause.no_fewer;
  broken = λ is. h.caused.cause.broken (err_is error dev_broken (from_broken error is));
  whole = λ unspoilt. h.caused.cause.whole (answered unspoilt);
  powered = λ is. h.caused.powered (err_is error dev_broken (from_broken error is));
  still_powered = λ is. h.caused.still_powered (err_is error dev_broken (from_broken error is));
  left = λ unspoilt. orders_leave (mount_orders given old.world.truth) (Err error) old.world new.world h.obeys (answered unspoilt);
  no_fault = λ unspoilt. h.caused.no_fault (answered unspoilt);
  geometry = h.obeys.geometry;
}
  where
    answered : new.spoilt ≡ false → is_answered (Err error) ≡ true
    answered unspoilt = not-false (is_answered (Err error)) (sym h.caused.spoilt ∙ unspoilt)

    unspoilt_memory : new.spoilt ≡ false → error ≡ dev_memory → ⊥
    unspoilt_memory unspoilt is = false≢true (ap (λ (e : DevError). is_answered (Err e)) (sym is) ∙ answered unspoilt)

-- ---- a mount that fails

pub mount_caused : (opts : MountOpts) (why : MountError) (old new : DeviceState) → old.spoilt ≡ false → IsSound old.world.truth → IsWithinLimits (geometry old.world.truth) → Finds mount_orders (Err why) old new
    → MountCause opts why old new
mount_caused opts why old new unspoilt sound limits h = elim (failure_cases h.reply (found_in h.given old.world.truth) why h.is) [
  | inl failed ↦ by_command failed
  | inr unformatted ↦ by_format unformatted
]
  where
    by_command : CommandFailed h.reply why → MountCause opts why old new
    by_command failed =
        let done = subst (λ (r : Reply). Ordered (mount_orders h.given old.world.truth) r old new) failed.is h.done in
        let answer : is_answered (Err failed.error) ≡ true → mount_call h.given old.world opts ≡ record { reply = Err (mount_error_of failed.error); world = new.world } =
        λ answered. subst (λ (e : MountError). mount_call h.given old.world opts ≡ record { reply = Err e; world = new.world }) failed.told (answer_is (Err why) old new opts h (ap is_answered failed.is ∙ answered)) in
        subst (λ (e : MountError). MountCause opts e old new) (sym failed.told) (command_cause opts h.given failed.error old new h.bytes sound limits answer done)

    by_format : Unformatted h.reply (found_in h.given old.world.truth) why → MountCause opts why old new
    by_format unformatted =
        let done = subst (λ (r : Reply). Ordered (mount_orders h.given old.world.truth) r old new) unformatted.done h.done in
        let answer : mount_call h.given old.world opts ≡ record { reply = Err (NotFormatted unformatted.cause); world = new.world } =
        subst (λ (e : MountError). mount_call h.given old.world opts ≡ record { reply = Err e; world = new.world }) unformatted.told (answer_is (Err why) old new opts h (ap is_answered unformatted.done)) in
        subst (λ (e : MountError). MountCause opts e old new) (sym unformatted.told) (unformatted_cause opts h.given unformatted.cause old new h.bytes unspoilt unformatted.is answer done)

-- memory was wanting before the first command
pub no_memory : (opts : MountOpts) (s : DeviceState) → s.spoilt ≡ false → MountCause opts Memory s s
no_memory opts s unspoilt = record {
  given = [];
  bytes = All-nil (λ (byte : ℕ). byte < 256);
  answer = λ _ other. absurd (other refl);
  wanting = λ _ _. refl;
  spoiling = λ spoilt. absurd (false≢true (sym unspoilt ∙ spoilt));
  free = λ _ _. refl;
  not_formatted = λ cause told. absurd (cc);
  untouched = λ _ _. refl;
  io_error = λ io. absurd (cc);
  lost = λ other. absurd (other refl);
  memory = refl;
  keeps = refl;
  later = omega arith;
  no_fewer = omega arith;
  broken = λ is. absurd (cc);
  whole = λ _. refl;
  powered = λ is. absurd (cc);
  still_powered = λ is. absurd (cc);
  left = λ _. inl refl;
  no_fault = λ _ _. refl;
  geometry = refl;
}
