-- A device that doesn't tell its bytes.
use Rattle.std.proofs.Common.{◌≡◌, ℕ, ◌+◌, Bool, true, false, List, [], ◌∷◌, map, nat_lt, refl, sym, ap, subst, ◌∙◌, ◌||◌, not}
use Rattle.std.specs.Prelude.{◌&&◌, if◌then◌else◌, is_some, Some, Err}
use Rattle.std.specs.List.{list_any}
use Rattle.std.proofs.Math.ListN.{get_or-map}
use Rattle.std.proofs.lemmas.List.{length-map}
use Rattle.zn_truth.specs.Orders.{Order, Reply}
use Rattle.zn_truth.specs.World.{World, Outcome}
use Rattle.zn_truth.specs.declared.Armed.{Armed}
use Rattle.zn_truth.specs.declared.Cond.{Cond}
use Rattle.zn_truth.specs.declared.FaultSpec.{FaultSpec}
use Rattle.zn_truth.specs.declared.InjectError.TheVariants.{PowerLost}
use Rattle.zn_truth.specs.declared.Kind.{Kind}
use Rattle.zn_truth.specs.declared.Kind.TheVariants.{Conventional, Sequential}
use Rattle.zn_truth.specs.declared.LossSpec.{LossSpec}
use Rattle.zn_truth.specs.declared.ZoneNo.{ZoneNo}
use Rattle.zn_truth.specs.Truth.{Truth, Zone, no_zone, zone_at, is_sequential}
use Rattle.zn_truth.specs.Power.{zone_lost, zones_lost, lost}
use Rattle.zn_truth.specs.Inject.{InjectReply, Injected, unless_bad, is_zone, is_misplaced, is_bad_cut, repeats, are_bad_cuts, is_outside, is_done_or_not, manages, inject, turn, lose_power, arm_loss, power_on}
use Rattle.zn_truth.specs.Hush.{hushed_zone, hushed, hushed_world}
use Rattle.zn_truth.proofs.Hushed.{obeys_hushed, issue_hushed, geometry_hushed, hushed_injected, inject_hushed, turn_hushed}
use Rattle.zn_device.specs.Causes.{is_refused}
use Rattle.zn_device.specs.Harms.{Injecting}
use Rattle.zn_device.specs.Quiet.{hushed_state}
use Rattle.zn_device.specs.States.{DeviceState, Commanded}

-- a command means the same of the device within
pub commanded_hushed : (order : Order) (result : Reply) (s t : DeviceState) → Commanded order result s t → Commanded order result (hushed_state s) (hushed_state t)
commanded_hushed order result s t h = record {
  obeys = obeys_hushed order result s.world t.world h.obeys;
  caused = record {
    spoilt = h.caused.spoilt;
    cause = h.caused.cause;
    memory = h.caused.memory;
    same = h.caused.same;
    keeps = h.caused.keeps;
    powered = h.caused.powered;
    still_powered = h.caused.still_powered;
    no_fault = h.caused.no_fault;
  };
  named = λ keeps refused. h.named keeps (sym (ap (λ (o : Outcome). is_refused o.reply) (issue_hushed s.world order)) ∙ refused);
}

-- a fault that waits in the device within
pub waits_hushed : (fault : FaultSpec) (result : InjectReply) (s : DeviceState) → result ≡ (inject s.world fault).reply → result ≡ (inject (hushed_state s).world fault).reply
waits_hushed fault result s reply = reply ∙ sym (ap (λ (i : Injected). i.reply) (inject_hushed s.world fault))

pub waiting_hushed : (fault : FaultSpec) (s t : DeviceState) → t ≡ record s { world = (inject s.world fault).world } → hushed_state t ≡ record (hushed_state s) { world = (inject (hushed_state s).world fault).world }
waiting_hushed fault s t waits =
    ap hushed_state waits ∙ sym (ap (λ (i : Injected). let d : DeviceState = record s { world = i.world } in d) (inject_hushed s.world fault))

-- what harms the device within does so to this one
injecting_hushed : (meant : Injected) (result : InjectReply) (s t : DeviceState) → Injecting meant result s t → Injecting (hushed_injected meant) result (hushed_state s) (hushed_state t)
injecting_hushed meant result s t h = record {
  reply = h.reply;
  world = λ told. ap hushed_world (h.world told);
  spoilt = h.spoilt;
  faults = h.faults;
  no_fewer = h.no_fewer;
  broken = h.broken;
  whole = h.whole;
  powered = h.powered;
  still_powered = h.still_powered;
  memory = h.memory;
  same = h.same;
  keeps = h.keeps;
  geometry = geometry_hushed t.world ∙ h.geometry ∙ sym (geometry_hushed s.world);
}

pub turning_hushed : (z : ℕ) (to : Cond) (result : InjectReply) (s t : DeviceState) → Injecting (turn s.world z to) result s t → Injecting (turn (hushed_state s).world z to) result (hushed_state s) (hushed_state t)
turning_hushed z to result s t h =
    subst (λ (i : Injected). Injecting i result (hushed_state s) (hushed_state t)) (sym (turn_hushed s.world z to)) (injecting_hushed (turn s.world z to) result s t h)

-- ---- losses of power

at_hushed : (t : Truth) (z : ℕ) → zone_at (hushed t) z ≡ hushed_zone (zone_at t z)
at_hushed t z = get_or-map hushed_zone t.zones z no_zone

zone_hushed : (kind : Kind) (zone : Zone) (z : ℕ) (loss : LossSpec) → hushed_zone (zone_lost kind (hushed_zone zone) z loss) ≡ hushed_zone (zone_lost kind zone z loss)
zone_hushed Conventional zone z loss = refl
zone_hushed Sequential zone z loss = refl

zones_hushed : (told : Bool) (z : ℕ) (zones : List Zone) (loss : LossSpec) → zones_lost false z (map hushed_zone zones) loss ≡ map hushed_zone (zones_lost told z zones loss)
zones_hushed told z [] loss = refl
zones_hushed told z (zone ∷ zones) loss =
    ap (λ (x : Zone). x ∷ zones_lost false (z + 1) (map hushed_zone zones) loss) (zone_hushed zone.kind zone z loss)
    ∙ ap (λ (all : List Zone). hushed_zone (zone_lost zone.kind zone z loss) ∷ all) (zones_hushed told (z + 1) zones loss)

lost_hushed : (t : Truth) (loss : LossSpec) → lost (hushed t) loss ≡ hushed (lost t loss)
unfolding lost
lost_hushed t loss = ap (λ (zones : List Zone). let u : Truth = record (hushed t) { zones = zones } in u) (zones_hushed t.told 0 t.zones loss)

-- what refuses a loss doesn't depend on bytes
any_same : {X : Type 0} (p q : X → Bool) (xs : List X) → ((x : X) → p x ≡ q x) → list_any p xs ≡ list_any q xs
any_same p q [] same = refl
any_same p q (x ∷ xs) same = ap (λ b. b || list_any p xs) (same x) ∙ ap (λ b. q x || b) (any_same p q xs same)

is_zone_hushed : (t : Truth) (z : ℕ) → is_zone (hushed t) z ≡ is_zone t z
is_zone_hushed t z = ap (nat_lt z) (length-map t.zones hushed_zone)

cut_hushed : (t : Truth) (cut : ZoneNo × ℕ) → is_bad_cut (hushed t) cut ≡ is_bad_cut t cut
cut_hushed t cut =
    ap (λ b. not b || not (is_sequential (zone_at (hushed t) cut.0.0).kind)) (is_zone_hushed t cut.0.0)
    ∙ ap (λ (zone : Zone). not (is_zone t cut.0.0) || not (is_sequential zone.kind)) (at_hushed t cut.0.0)

cuts_hushed : (t : Truth) (cuts : List (ZoneNo × ℕ)) → are_bad_cuts (hushed t) cuts ≡ are_bad_cuts t cuts
cuts_hushed t cuts = ap (λ b. b || repeats cuts) (any_same (is_bad_cut (hushed t)) (is_bad_cut t) cuts (cut_hushed t))

outside_hushed : (t : Truth) (cut : ZoneNo × ℕ) → is_outside (hushed t) cut ≡ is_outside t cut
outside_hushed t cut = ap (λ (zone : Zone). nat_lt cut.1 zone.durable || nat_lt zone.held cut.1) (at_hushed t cut.0.0)

refused_hushed : (bad : Bool) (w new : World) → unless_bad bad (hushed_world w) (hushed_world new) ≡ hushed_injected (unless_bad bad w new)
refused_hushed true w new = refl
refused_hushed false w new = refl

lose_power_hushed : (w : World) (loss : LossSpec) → lose_power (hushed_world w) loss ≡ hushed_injected (lose_power w loss)
unfolding lose_power
lose_power_hushed w loss =
    let bad = are_bad_cuts w.truth loss.cuts || list_any (is_outside w.truth) loss.cuts in
    let same : are_bad_cuts (hushed w.truth) loss.cuts || list_any (is_outside (hushed w.truth)) loss.cuts ≡ bad =
    ap (λ b. b || list_any (is_outside (hushed w.truth)) loss.cuts) (cuts_hushed w.truth loss.cuts)
    ∙ ap (λ b. are_bad_cuts w.truth loss.cuts || b) (any_same (is_outside (hushed w.truth)) (is_outside w.truth) loss.cuts (outside_hushed w.truth)) in
    let after : Truth → World = λ t. record (hushed_world w) { truth = t; powered = false } in
    by_power w.powered _ _ (ap (λ b. unless_bad b (hushed_world w) (after (lost (hushed w.truth) loss))) same
    ∙ ap (λ (t : Truth). unless_bad bad (hushed_world w) (after t)) (lost_hushed w.truth loss)
    ∙ refused_hushed bad w (record w { truth = lost w.truth loss; powered = false }))
  where
    by_power : (on : Bool) (one other : Injected) → one ≡ hushed_injected other
        → (if not on then record { reply = Err PowerLost; world = hushed_world w } else one) ≡ hushed_injected (if not on then record { reply = Err PowerLost; world = w } else other)
    by_power true one other is = is
    by_power false one other is = refl

arm_loss_hushed : (w : World) (armed : Armed) → arm_loss (hushed_world w) armed ≡ hushed_injected (arm_loss w armed)
unfolding arm_loss
arm_loss_hushed w armed =
    let rest = λ (misplaced bad : Bool). misplaced || bad || (armed.carried_out && not (is_done_or_not armed.command)) || is_some w.armed in
    let after : World = record w { armed = Some armed } in
    let misplaced : is_misplaced (hushed w.truth) armed.zone.0 armed.command ≡ is_misplaced w.truth armed.zone.0 armed.command =
    ap (λ b. not b || (manages armed.command && not (is_sequential (zone_at (hushed w.truth) armed.zone.0).kind))) (is_zone_hushed w.truth armed.zone.0)
    ∙ ap (λ (zone : Zone). not (is_zone w.truth armed.zone.0) || (manages armed.command && not (is_sequential zone.kind))) (at_hushed w.truth armed.zone.0) in
    ap (λ b. unless_bad (rest b (are_bad_cuts (hushed w.truth) armed.loss.cuts)) (hushed_world w) (hushed_world after)) misplaced
    ∙ ap (λ b. unless_bad (rest (is_misplaced w.truth armed.zone.0 armed.command) b) (hushed_world w) (hushed_world after)) (cuts_hushed w.truth armed.loss.cuts)
    ∙ refused_hushed (rest (is_misplaced w.truth armed.zone.0 armed.command) (are_bad_cuts w.truth armed.loss.cuts)) w after

pub losing_hushed : (loss : LossSpec) (result : InjectReply) (s t : DeviceState) → Injecting (lose_power s.world loss) result s t → Injecting (lose_power (hushed_state s).world loss) result (hushed_state s) (hushed_state t)
losing_hushed loss result s t h =
    subst (λ (i : Injected). Injecting i result (hushed_state s) (hushed_state t)) (sym (lose_power_hushed s.world loss)) (injecting_hushed (lose_power s.world loss) result s t h)

-- a loss that waits in the device within
pub armed_hushed : (armed : Armed) (result : InjectReply) (s : DeviceState) → result ≡ (arm_loss s.world armed).reply → result ≡ (arm_loss (hushed_state s).world armed).reply
armed_hushed armed result s reply = reply ∙ sym (ap (λ (i : Injected). i.reply) (arm_loss_hushed s.world armed))

pub arming_hushed : (armed : Armed) (s t : DeviceState) → t ≡ record s { world = (arm_loss s.world armed).world } → hushed_state t ≡ record (hushed_state s) { world = (arm_loss (hushed_state s).world armed).world }
arming_hushed armed s t waits =
    ap hushed_state waits ∙ sym (ap (λ (i : Injected). let d : DeviceState = record s { world = i.world } in d) (arm_loss_hushed s.world armed))

pub powering_hushed : (s t : DeviceState) → t ≡ record s { world = power_on s.world } → hushed_state t ≡ record (hushed_state s) { world = power_on (hushed_state s).world }
unfolding power_on
powering_hushed s t is = ap hushed_state is
