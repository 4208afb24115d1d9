-- A zone that turns.
use Rattle.std.proofs.Common.{◌≡◌, ℕ, Bool, true, false, List, Ok, Err, refl, sym, ap, ◌∙◌, subst, Option, arith, nat_le}
use Rattle.std.specs.Prelude.{◌||◌, not, IsErrOf}
use Rattle.std.proofs.lemmas.Bool.{false≢true, true≢false}
use Rattle.std.proofs.lemmas.Grind.{common_steps}
use Rattle.zn_truth.specs.declared.Armed.{Armed}
use Rattle.zn_truth.specs.declared.Cond.{Cond}
use Rattle.zn_truth.specs.declared.DevError.{DevError}
use Rattle.zn_truth.specs.declared.DevError.TheVariants.{ReadOnly, Offline, Unaligned, TooManyActive, TooManyOpen, BeyondWp, Fault, PowerLost, Broken, Memory}
use Rattle.zn_truth.specs.declared.FaultSpec.{FaultSpec}
use Rattle.zn_truth.specs.declared.InjectError.{InjectError}
use Rattle.zn_truth.specs.declared.InjectError.TheVariants.{BadFault, PowerLost as power_lost, Broken as broken, Memory as memory}
use Rattle.zn_truth.specs.Truth.{Truth, zone_at}
use Rattle.zn_truth.specs.Loss.{turned}
use Rattle.zn_truth.specs.Orders.{Reply}
use Rattle.zn_truth.specs.World.{World, geometry_of, calm}
use Rattle.zn_truth.specs.Inject.{Injected, InjectReply, unless_bad, is_zone, severity, turn}
use Rattle.zn_truth.specs.Obeying.{IsAnswered, is_answered}
use Rattle.zn_device.specs.States.{DeviceState}
use Rattle.zn_device.specs.Harms.{Harmed, Injecting, is_told}
use Rattle.zn_fault.specs.FaultState.{faulty_state}
use Rattle.zn_fault.specs.Turns.{harm_error, harm_reply}
use Rattle.zn_fault.proofs.Harming.{unharmed, then_harmed}

-- ---- what is told of a harm

-- a harm answers success, a break or want of memory, and each is told as it is
abbrev pub IsTold : Reply → Type 0
IsTold r = (is_told (harm_reply r) ≡ is_answered r) × (IsErrOf (harm_reply r) broken → IsErrOf r Broken) × (IsErrOf (harm_reply r) memory → IsErrOf r Memory)

pub harm_told : (r : Reply) → (IsAnswered r → r ≡ Ok tt) → IsTold r
harm_told (Ok unit) done = (refl, λ is. absurd (cc), λ is. absurd (cc))
harm_told (Err Broken) done = (refl, λ is. refl, λ is. absurd (cc))
harm_told (Err Memory) done = (refl, λ is. absurd (cc), λ is. refl)
harm_told (Err ReadOnly) done = absurd (cc (done refl))
harm_told (Err Offline) done = absurd (cc (done refl))
harm_told (Err Unaligned) done = absurd (cc (done refl))
harm_told (Err TooManyActive) done = absurd (cc (done refl))
harm_told (Err TooManyOpen) done = absurd (cc (done refl))
harm_told (Err BeyondWp) done = absurd (cc (done refl))
harm_told (Err Fault) done = absurd (cc (done refl))
harm_told (Err PowerLost) done = absurd (cc (done refl))

-- a calm device has power
pub has_power : (w : World) → w ≡ calm w.truth → w.powered ≡ true
has_power w is_calm = ap (λ (v : World). v.powered) is_calm

-- a harm of a device without faults, as a script is told it
pub harmed_injecting : (meant : Injected) (truth : Truth) (r : Reply) (old new : DeviceState) → Harmed truth r old new → old.world ≡ calm old.world.truth → new.world ≡ calm new.world.truth → old.faults ≡ 0 → new.faults ≡ 0
    → (IsAnswered r → meant ≡ record { reply = Ok tt; world = record old.world { truth = truth } }) → Injecting meant (harm_reply r) old new
harmed_injecting meant truth r old new h is_calm still_calm faultless still is =
    let told : IsTold r = harm_told r h.done in
    record {
      reply = λ t. let answered : IsAnswered r = sym told.0 ∙ t in ap harm_reply (h.done answered) ∙ sym (ap (λ (x : Injected). x.reply) (is answered));
      world = λ t. let answered : IsAnswered r = sym told.0 ∙ t in h.world answered ∙ sym (ap (λ (x : Injected). x.world) (is answered));
      spoilt = h.caused.spoilt ∙ ap not (sym told.0);
      faults = still ∙ sym faultless;
      no_fewer = h.caused.cause.no_fewer;
      broken = λ b. h.caused.cause.broken (told.1 b);
      whole = λ t. h.caused.cause.whole (sym told.0 ∙ t);
      powered = λ none. has_power old.world is_calm;
      still_powered = λ none. has_power new.world still_calm;
      memory = λ none m. h.caused.memory none (told.2 m);
      same = h.caused.same;
      keeps = h.caused.keeps;
      geometry = h.geometry;
    }

-- ---- a turn of a device with power and without faults

-- whether a turn is refused, by the zone and its condition
abbrev is_bad_turn : Truth → ℕ → Cond → Bool
is_bad_turn t z to = not (is_zone t z) || nat_le (severity to) (severity (zone_at t z).cond)

bad_turn : (w : World) (z : ℕ) (to : Cond) → w.powered ≡ true → is_bad_turn w.truth z to ≡ true → turn w z to ≡ record { reply = Err BadFault; world = w }
unfolding turn
bad_turn w z to on bad = grind (arith, common_steps)

good_turn : (w : World) (z : ℕ) (to : Cond) → w.powered ≡ true → is_bad_turn w.truth z to ≡ false → turn w z to ≡ record { reply = Ok tt; world = record w { truth = turned w.truth z to } }
unfolding turn
good_turn w z to on good = grind (arith, common_steps)

-- a refusal of a device that was asked at most
refused_injecting : (meant : Injected) (e : InjectError) (old new : DeviceState) → Harmed old.world.truth (Ok tt) old new → old.faults ≡ 0 → new.faults ≡ 0 → is_told (Err e) ≡ true
    → meant ≡ record { reply = Err e; world = old.world } → Injecting meant (Err e) old new
refused_injecting meant e old new h faultless still told is = record {
  reply = λ t. sym (ap (λ (x : Injected). x.reply) is);
  world = λ t. h.world refl ∙ sym (ap (λ (x : Injected). x.world) is);
  spoilt = h.caused.spoilt ∙ ap not (sym told);
  faults = still ∙ sym faultless;
  no_fewer = h.caused.cause.no_fewer;
  broken = λ b. absurd (false≢true (sym (ap is_told b) ∙ told));
  whole = λ t. h.caused.cause.whole refl;
  powered = λ none. absurd (false≢true (sym none ∙ told));
  still_powered = λ none. absurd (false≢true (sym none ∙ told));
  memory = λ none m. false≢true (sym (ap is_told m) ∙ told);
  same = h.caused.same;
  keeps = h.caused.keeps;
  geometry = h.geometry;
}

-- a zone that isn't there
pub past_turn : (s : DeviceState) (z : ℕ) (to : Cond) → is_zone s.world.truth z ≡ false → s.spoilt ≡ false → s.world ≡ calm s.world.truth → s.faults ≡ 0
    → Injecting (turn s.world z to) (Err BadFault) s s
past_turn s z to past unspoilt is_calm faultless =
    refused_injecting (turn s.world z to) BadFault s s (unharmed s unspoilt) faultless faultless refl
    (bad_turn s.world z to (has_power s.world is_calm) (ap (λ b. not b || nat_le (severity to) (severity (zone_at s.world.truth z).cond)) past))

or_true : (b : Bool) → (b || true) ≡ true
or_true true = refl
or_true false = refl

-- a condition that is no worse
pub no_worse_turn : (old new : DeviceState) (z : ℕ) (to : Cond) → Harmed old.world.truth (Ok tt) old new → nat_le (severity to) (severity (zone_at old.world.truth z).cond) ≡ true
    → old.world ≡ calm old.world.truth → old.faults ≡ 0 → new.faults ≡ 0 → Injecting (turn old.world z to) (Err BadFault) old new
no_worse_turn old new z to asked no_worse is_calm faultless still =
    refused_injecting (turn old.world z to) BadFault old new asked faultless still refl
    (bad_turn old.world z to (has_power old.world is_calm) (ap (λ b. not (is_zone old.world.truth z) || b) no_worse ∙ or_true (not (is_zone old.world.truth z))))

-- a zone that couldn't be asked
pub unasked_turn : (old new : DeviceState) (z : ℕ) (to : Cond) (e : DevError) → Harmed old.world.truth (Err e) old new → old.world ≡ calm old.world.truth → new.world ≡ calm new.world.truth → old.faults ≡ 0 → new.faults ≡ 0
    → Injecting (turn old.world z to) (Err (harm_error e)) old new
unasked_turn old new z to e h is_calm still_calm faultless still =
    harmed_injecting (turn old.world z to) old.world.truth (Err e) old new h is_calm still_calm faultless still (λ answered. absurd (cc (h.done answered)))

-- a condition that is worse
pub worse_turn : (old middle new : DeviceState) (z : ℕ) (to : Cond) (r : Reply) → Harmed (turned middle.world.truth z to) r middle new → Harmed old.world.truth (Ok tt) old middle
    → is_zone old.world.truth z ≡ true → nat_le (severity to) (severity (zone_at old.world.truth z).cond) ≡ false
    → old.world ≡ calm old.world.truth → new.world ≡ calm new.world.truth → old.faults ≡ 0 → new.faults ≡ 0 → Injecting (turn old.world z to) (harm_reply r) old new
worse_turn old middle new z to r h asked zone worse is_calm still_calm faultless still =
    let truth : middle.world.truth ≡ old.world.truth = ap (λ (w : World). w.truth) (asked.world refl) in
    let whole : Harmed (turned old.world.truth z to) r old new =
    then_harmed old.world.truth (turned old.world.truth z to) r old middle new asked (subst (λ (t : Truth). Harmed (turned t z to) r middle new) truth h) in
    harmed_injecting (turn old.world z to) (turned old.world.truth z to) r old new whole is_calm still_calm faultless still
    (λ answered. good_turn old.world z to (has_power old.world is_calm) (ap (λ b. not b || nat_le (severity to) (severity (zone_at old.world.truth z).cond)) zone ∙ worse))

-- ---- a turn of the device with faults

-- the world of the device, by its parts
around : Truth → Bool → List FaultSpec → Option Armed → World
around t powered pending armed = record { truth = t; powered = powered; pending = pending; armed = armed }

-- whatever waits, a turn with power is that of the device within
turn_same : (t : Truth) (pending : List FaultSpec) (armed : Option Armed) (z : ℕ) (to : Cond)
    → let inner = turn (calm t) z to in turn (around t true pending armed) z to ≡ record { reply = inner.reply; world = around inner.world.truth true pending armed }
unfolding turn around
turn_same t pending armed z to = by_test (is_bad_turn t z to)
  where
    by_test : (bad : Bool) → unless_bad bad (around t true pending armed) (around (turned t z to) true pending armed)
        ≡ (let inner = unless_bad bad (calm t) (calm (turned t z to)) in record { reply = inner.reply; world = around inner.world.truth true pending armed })
    by_test true = refl
    by_test false = refl

pub faulty_turn : (old new : DeviceState) (powered : Bool) (pending : List FaultSpec) (armed : Option Armed) (faults z : ℕ) (to : Cond) (r : InjectReply) → Injecting (turn old.world z to) r old new
    → old.world ≡ calm old.world.truth → powered ≡ true
    → Injecting (turn (faulty_state old powered pending armed faults).world z to) r (faulty_state old powered pending armed faults) (faulty_state new powered pending armed faults)
unfolding geometry_of around
faulty_turn old new powered pending armed faults z to r h is_calm on =
    let inner : turn old.world z to ≡ turn (calm old.world.truth) z to = ap (λ (w : World). turn w z to) is_calm in
    let same : _ = ap (λ b. turn (around old.world.truth b pending armed) z to) on ∙ turn_same old.world.truth pending armed z to in
    record {
      reply = λ t. h.reply t ∙ ap (λ (x : Injected). x.reply) inner ∙ sym (ap (λ (x : Injected). x.reply) same);
      world = λ t.
          ap (λ b. around new.world.truth b pending armed) on
          ∙ ap (λ (w : World). around w.truth true pending armed) (h.world t ∙ ap (λ (x : Injected). x.world) inner)
          ∙ sym (ap (λ (x : Injected). x.world) same);
      spoilt = h.spoilt;
      faults = refl;
      no_fewer = h.no_fewer;
      broken = h.broken;
      whole = h.whole;
      powered = λ b. on;
      still_powered = λ b. on;
      memory = h.memory;
      same = h.same;
      keeps = h.keeps;
      geometry = h.geometry;
    }

off_turned : (t : Truth) (pending : List FaultSpec) (armed : Option Armed) (z : ℕ) (to : Cond) (powered : Bool) → powered ≡ false
    → turn (around t powered pending armed) z to ≡ record { reply = Err power_lost; world = around t powered pending armed }
unfolding turn around
off_turned t pending armed z to true off = absurd (true≢false off)
off_turned t pending armed z to false off = refl

-- a refusal that changes nothing
pub unchanged : (meant : Injected) (e : InjectError) (s : DeviceState) → s.spoilt ≡ false → is_told (Err e) ≡ true → meant ≡ record { reply = Err e; world = s.world } → Injecting meant (Err e) s s
unchanged meant e s unspoilt told is = record {
  reply = λ t. sym (ap (λ (x : Injected). x.reply) is);
  world = λ t. sym (ap (λ (x : Injected). x.world) is);
  spoilt = unspoilt ∙ ap not (sym told);
  faults = refl;
  no_fewer = omega arith;
  broken = λ b. absurd (false≢true (sym (ap is_told b) ∙ told));
  whole = λ t. refl;
  powered = λ none. absurd (false≢true (sym none ∙ told));
  still_powered = λ none. absurd (false≢true (sym none ∙ told));
  memory = λ none m. false≢true (sym (ap is_told m) ∙ told);
  same = refl;
  keeps = refl;
  geometry = refl;
}

-- without power no zone turns
pub off_turn : (s : DeviceState) (powered : Bool) (pending : List FaultSpec) (armed : Option Armed) (faults z : ℕ) (to : Cond) → powered ≡ false → s.spoilt ≡ false
    → Injecting (turn (faulty_state s powered pending armed faults).world z to) (Err power_lost) (faulty_state s powered pending armed faults) (faulty_state s powered pending armed faults)
unfolding around
off_turn s powered pending armed faults z to off unspoilt =
    unchanged (turn (around s.world.truth powered pending armed) z to) power_lost (faulty_state s powered pending armed faults) unspoilt refl (off_turned s.world.truth pending armed z to powered off)
