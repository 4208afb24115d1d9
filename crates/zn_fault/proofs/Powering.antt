-- Losses of power at rest, and losses that are to wait.
use Rattle.std.proofs.Common.{◌≡◌, ℕ, Bool, true, false, List, Option, Some, Ok, Err, refl, sym, ap, ◌∙◌}
use Rattle.std.specs.Prelude.{◌||◌, ◌&&◌, not, is_some, if◌then◌else◌, IsErrOf}
use Rattle.std.proofs.lemmas.Bool.{false≢true, true≢false}
use Rattle.zn_truth.specs.declared.Armed.{Armed}
use Rattle.zn_truth.specs.declared.DevError.{DevError}
use Rattle.zn_truth.specs.declared.DevError.TheVariants.{Broken, Memory}
use Rattle.zn_truth.specs.declared.FaultSpec.{FaultSpec}
use Rattle.zn_truth.specs.declared.InjectError.TheVariants.{BadFault, PowerLost as power_lost, Broken as broken, Memory as memory}
use Rattle.zn_truth.specs.declared.LossSpec.{LossSpec}
use Rattle.zn_truth.specs.Truth.{Truth}
use Rattle.zn_truth.specs.Orders.{Reply}
use Rattle.zn_truth.specs.Power.{lost}
use Rattle.zn_truth.specs.World.{World, geometry_of}
use Rattle.zn_truth.specs.Inject.{Injected, InjectReply, unless_bad, is_misplaced, are_bad_cuts, is_done_or_not, lose_power, arm_loss}
use Rattle.zn_truth.specs.Obeying.{is_answered}
use Rattle.zn_device.specs.Harms.{Harmed, Injecting, is_told}
use Rattle.zn_device.specs.States.{DeviceState}
use Rattle.zn_fault.specs.FaultState.{faulty_state}
use Rattle.zn_fault.specs.Losses.{is_bad_loss}
use Rattle.zn_fault.specs.Turns.{harm_error}
use Rattle.zn_fault.proofs.Turning.{harm_told, unchanged}

-- the world of the device, by its parts
abbrev around : Truth → Bool → List FaultSpec → Option Armed → World
around t powered pending armed = record { truth = t; powered = powered; pending = pending; armed = armed }

-- ---- a loss at rest

off_lost : (t : Truth) (pending : List FaultSpec) (armed : Option Armed) (loss : LossSpec) (powered : Bool) → powered ≡ false
    → lose_power (around t powered pending armed) loss ≡ record { reply = Err power_lost; world = around t powered pending armed }
unfolding lose_power
off_lost t pending armed loss true off = absurd (true≢false off)
off_lost t pending armed loss false off = refl

-- without power none goes
pub off_loss : (s : DeviceState) (powered : Bool) (pending : List FaultSpec) (armed : Option Armed) (faults : ℕ) (loss : LossSpec) → powered ≡ false → s.spoilt ≡ false
    → Injecting (lose_power (faulty_state s powered pending armed faults).world loss) (Err power_lost) (faulty_state s powered pending armed faults) (faulty_state s powered pending armed faults)
off_loss s powered pending armed faults loss off unspoilt =
    unchanged (lose_power (around s.world.truth powered pending armed) loss) power_lost (faulty_state s powered pending armed faults) unspoilt refl (off_lost s.world.truth pending armed loss powered off)

-- with power it is refused or not
on_lost : (t : Truth) (pending : List FaultSpec) (armed : Option Armed) (loss : LossSpec) (powered : Bool) → powered ≡ true
    → lose_power (around t powered pending armed) loss ≡ unless_bad (is_bad_loss t loss) (around t powered pending armed) (around (lost t loss) false pending armed)
unfolding lose_power
on_lost t pending armed loss true on = refl
on_lost t pending armed loss false on = absurd (false≢true on)

bad_lost : (t : Truth) (pending : List FaultSpec) (armed : Option Armed) (loss : LossSpec) (powered : Bool) → powered ≡ true → is_bad_loss t loss ≡ true
    → lose_power (around t powered pending armed) loss ≡ record { reply = Err BadFault; world = around t powered pending armed }
bad_lost t pending armed loss powered on bad =
    on_lost t pending armed loss powered on ∙ ap (λ b. unless_bad b (around t powered pending armed) (around (lost t loss) false pending armed)) bad

good_lost : (t : Truth) (pending : List FaultSpec) (armed : Option Armed) (loss : LossSpec) (powered : Bool) → powered ≡ true → is_bad_loss t loss ≡ false
    → lose_power (around t powered pending armed) loss ≡ record { reply = Ok tt; world = around (lost t loss) false pending armed }
good_lost t pending armed loss powered on good =
    on_lost t pending armed loss powered on ∙ ap (λ b. unless_bad b (around t powered pending armed) (around (lost t loss) false pending armed)) good

-- what a harm of the device within is to the one around it
injecting_by : (meant : Injected) (truth : Truth) (r : Reply) (result : InjectReply) (old new : DeviceState) (powered now : Bool) (pending : List FaultSpec) (armed : Option Armed) (faults : ℕ)
    → Harmed truth r old new → is_told result ≡ is_answered r → (IsErrOf result broken → IsErrOf r Broken) → (IsErrOf result memory → IsErrOf r Memory) → powered ≡ true → (is_answered r ≡ false → now ≡ true)
    → (is_answered r ≡ true → meant ≡ record { reply = result; world = around truth now pending armed })
    → Injecting meant result (faulty_state old powered pending armed faults) (faulty_state new now pending armed faults)
unfolding geometry_of
injecting_by meant truth r result old new powered now pending armed faults h told breaks wants on still is = record {
  reply = λ t. sym (ap (λ (x : Injected). x.reply) (is (sym told ∙ t)));
  world = λ t. ap (λ (w : World). around w.truth now pending armed) (h.world (sym told ∙ t)) ∙ sym (ap (λ (x : Injected). x.world) (is (sym told ∙ t)));
  spoilt = h.caused.spoilt ∙ ap not (sym told);
  faults = refl;
  no_fewer = h.caused.cause.no_fewer;
  broken = λ b. h.caused.cause.broken (breaks b);
  whole = λ t. h.caused.cause.whole (sym told ∙ t);
  powered = λ none. on;
  still_powered = λ none. still (sym told ∙ none);
  memory = λ none m. h.caused.memory none (wants m);
  same = h.caused.same;
  keeps = h.caused.keeps;
  geometry = h.geometry;
}

-- what became of the device within
abbrev lost_unless : Truth → LossSpec → Truth
lost_unless t loss = if is_bad_loss t loss then t else lost t loss

was_bad : (bad : Bool) → false ≡ not bad → bad ≡ true
was_bad true is = refl
was_bad false is = absurd (false≢true is)

was_good : (bad : Bool) → true ≡ not bad → bad ≡ false
was_good false is = refl
was_good true is = absurd (true≢false is)

-- the power goes
pub good_loss : (loss : LossSpec) (old new : DeviceState) (powered : Bool) (pending : List FaultSpec) (armed : Option Armed) (faults : ℕ) → Harmed (lost_unless old.world.truth loss) (Ok tt) old new
    → true ≡ not (is_bad_loss old.world.truth loss) → powered ≡ true
    → Injecting (lose_power (faulty_state old powered pending armed faults).world loss) (Ok tt) (faulty_state old powered pending armed faults) (faulty_state new false pending armed faults)
good_loss loss old new powered pending armed faults h good on =
    let t = old.world.truth in
    let is : is_bad_loss t loss ≡ false = was_good (is_bad_loss t loss) good in
    injecting_by (lose_power (around t powered pending armed) loss) (lost_unless t loss) (Ok tt) (Ok tt) old new powered false pending armed faults h refl (λ b. absurd (cc)) (λ m. absurd (cc)) on (λ none. absurd (true≢false none))
    (λ answered. good_lost t pending armed loss powered on is ∙ ap (λ b. let i : Injected = record { reply = Ok tt; world = around (if b then t else lost t loss) false pending armed } in i) (sym is))

-- the loss is refused
pub bad_loss : (loss : LossSpec) (old new : DeviceState) (powered : Bool) (pending : List FaultSpec) (armed : Option Armed) (faults : ℕ) → Harmed (lost_unless old.world.truth loss) (Ok tt) old new
    → false ≡ not (is_bad_loss old.world.truth loss) → powered ≡ true
    → Injecting (lose_power (faulty_state old powered pending armed faults).world loss) (Err BadFault) (faulty_state old powered pending armed faults) (faulty_state new powered pending armed faults)
bad_loss loss old new powered pending armed faults h bad on =
    let t = old.world.truth in
    let is : is_bad_loss t loss ≡ true = was_bad (is_bad_loss t loss) bad in
    injecting_by (lose_power (around t powered pending armed) loss) (lost_unless t loss) (Ok tt) (Err BadFault) old new powered powered pending armed faults h refl (λ b. absurd (cc)) (λ m. absurd (cc)) on (λ none. on)
    (λ answered. bad_lost t pending armed loss powered on is ∙ ap (λ b. let i : Injected = record { reply = Err BadFault; world = around (if b then t else lost t loss) powered pending armed } in i) (sym is))

-- the device within fails, and the power stays on
pub failed_loss : (loss : LossSpec) (truth : Truth) (e : DevError) (old new : DeviceState) (powered : Bool) (pending : List FaultSpec) (armed : Option Armed) (faults : ℕ) → Harmed truth (Err e) old new → powered ≡ true
    → Injecting (lose_power (faulty_state old powered pending armed faults).world loss) (Err (harm_error e)) (faulty_state old powered pending armed faults) (faulty_state new powered pending armed faults)
failed_loss loss truth e old new powered pending armed faults h on =
    let told : _ = harm_told (Err e) h.done in
    injecting_by (lose_power (around old.world.truth powered pending armed) loss) truth (Err e) (Err (harm_error e)) old new powered powered pending armed faults h told.0 told.1 told.2 on (λ none. on)
    (λ answered. absurd (cc (h.done answered)))

-- ---- a loss that is to wait

-- whether it can't
abbrev is_bad_arm : World → Armed → Bool
is_bad_arm w armed = is_misplaced w.truth armed.zone.0 armed.command || are_bad_cuts w.truth armed.loss.cuts || (armed.carried_out && not (is_done_or_not armed.command)) || is_some w.armed

pub bad_arm : (w : World) (armed : Armed) → is_bad_arm w armed ≡ true → arm_loss w armed ≡ record { reply = Err BadFault; world = w }
unfolding arm_loss
bad_arm w armed bad = ap (λ b. unless_bad b w (record w { armed = Some armed })) bad

pub good_arm : (w : World) (armed : Armed) → is_bad_arm w armed ≡ false → arm_loss w armed ≡ record { reply = Ok tt; world = record w { armed = Some armed } }
unfolding arm_loss
good_arm w armed good = ap (λ b. unless_bad b w (record w { armed = Some armed })) good
