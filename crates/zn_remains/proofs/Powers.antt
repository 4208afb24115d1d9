-- What an order to a device with power leaves, and that nothing changes without power.
use Rattle.std.proofs.Common.{◌≡◌, ℕ, Bool, true, false, List, [], ◌∷◌, ◌++◌, length, map, Option, Some, None, Ok, Err, refl, sym, ap, ◌∙◌, subst, get_or, arith}
use Rattle.std.specs.Prelude.{if◌then◌else◌, not, ◌||◌, nat_le}
use Rattle.std.proofs.lemmas.Bool.{true≢false}
use Rattle.std.proofs.lemmas.List.{get_or-map, length-map}
use Rattle.std.specs.List.{list_any}
use Rattle.zn_truth.specs.declared.limits.TheConstants.{MAX_FAULTS}
use Rattle.zn_truth.specs.declared.Armed.{Armed}
use Rattle.zn_truth.specs.declared.Cond.{Cond}
use Rattle.zn_truth.specs.declared.DevError.TheVariants.{PowerLost as power_lost}
use Rattle.zn_truth.specs.declared.FaultSpec.{FaultSpec}
use Rattle.zn_truth.specs.declared.InjectError.TheVariants.{BadFault, TooManyFaults, PowerLost as no_power}
use Rattle.zn_truth.specs.declared.LossSpec.{LossSpec}
use Rattle.zn_truth.specs.Inject.{Injected, inject, turn, lose_power, power_on, unless_bad, is_bad_fault, is_zone, severity, are_bad_cuts, is_outside}
use Rattle.zn_truth.specs.Loss.{turned}
use Rattle.zn_truth.specs.Power.{lost}
use Rattle.zn_truth.specs.Orders.{Order, FlushAll, flushed, done}
use Rattle.zn_truth.specs.Truth.{Zone, Truth, zone_at, no_zone}
use Rattle.zn_truth.specs.World.{World, Outcome, command_of, zones_of, meets, met, outcome, struck, powered_off, issue_armed, issue, faulted}
use Rattle.zn_truth.proofs.OrderLists.{no_power as stays_off}
use Rattle.zn_truth.proofs.SoundInject.{arm_loss_leaves}
use Rattle.zn_truth.proofs.SoundIssue.{if_keeps}
use Rattle.zn_remains.specs.Events.{Event, Ordered, FaultAsked, Turned, PowerLost, LossArmed, PowerBack, after_event}
use Rattle.zn_remains.specs.Remaining.{IsAllDurable, DarkStays, is_dark}

-- ---- with power

-- an order is done, met by a fault, or struck by the armed loss
pub issue_cases : (P : Outcome → Type 0) (w : World) (order : Order) → w.powered ≡ true → ((pending : List FaultSpec) (armed : Option Armed) → P (outcome (done w.truth order) pending armed))
    → ((fault : FaultSpec) (pending : List FaultSpec) (armed : Option Armed) → P (outcome (faulted w.truth order fault) pending armed)) → ((armed : Armed) → P (powered_off w.truth w.pending armed order))
    → P (issue w order)
unfolding issue
issue_cases P w order on is_done is_faulted is_lost = subst (λ (b : Bool). P (if b then issue_armed w order w.armed else (record { reply = Err power_lost; world = w }))) (sym on) (by_armed w.armed)
  where
    by_fault : (pending rest : List FaultSpec) (armed : Option Armed) (fault : Option FaultSpec) → P (struck w.truth pending rest armed order fault)
    by_fault pending rest armed None = is_done pending armed
    by_fault pending rest armed (Some fault) = is_faulted fault rest armed

    by_armed : (armed : Option Armed) → P (issue_armed w order armed)
    by_armed None = by_fault w.pending _ None (met (command_of order) (zones_of order) w.pending)
    by_armed (Some armed) = if_keeps P (meets (command_of order) (zones_of order) armed.command armed.zone.0) _ _ (is_lost armed)
        (by_fault w.pending _ (Some armed) (met (command_of order) (zones_of order) w.pending))

-- an order after which the power is off was told so
pub goes_told : (w : World) (order : Order) → w.powered ≡ true → (issue w order).world.powered ≡ false → (issue w order).reply ≡ Err power_lost
goes_told w order on = issue_cases (λ o. o.world.powered ≡ false → o.reply ≡ Err power_lost) w order on (λ pending armed off. absurd (true≢false off)) (λ fault pending armed off. absurd (true≢false off)) (λ armed off. refl)

-- an order that is told `Ok` came with power
on_if_ok : (w : World) (order : Order) (powered : Bool) → w.powered ≡ powered → (issue w order).reply ≡ Ok tt → powered ≡ true
on_if_ok w order true is ok = refl
on_if_ok w order false is ok = let told : Err power_lost ≡ Ok tt = sym (ap (λ (o : Outcome). o.reply) (stays_off w order is)) ∙ ok in absurd (cc)

flushed_durable : (t : Truth) → IsAllDurable (done t FlushAll).truth
unfolding done
flushed_durable t = record {
  zones = λ z below.
      let at : get_or (map flushed t.zones) z no_zone ≡ flushed (get_or t.zones z no_zone) = get_or-map flushed t.zones z no_zone no_zone (omega (arith, below, length-map t.zones flushed)) in
      ap (λ (zone : Zone). zone.durable) at ∙ sym (ap (λ (zone : Zone). zone.held) at);
}

pub flush_durable : (w : World) → (issue w FlushAll).reply ≡ Ok tt → IsAllDurable (issue w FlushAll).world.truth
unfolding faulted
flush_durable w ok = issue_cases (λ o. o.reply ≡ Ok tt → IsAllDurable o.world.truth) w FlushAll (on_if_ok w FlushAll w.powered refl ok)
    (λ pending armed told. flushed_durable w.truth) (λ fault pending armed told. absurd (cc)) (λ armed told. absurd (cc)) ok

-- ---- without power

pub asked_leaves : (w : World) (fault : FaultSpec) (P : World → Type 0) → P w → ((pending : List FaultSpec) → P (record w { pending = pending })) → P (inject w fault).world
unfolding inject
asked_leaves w fault P here waits =
    either (is_bad_fault w.truth fault) (record { reply = Err BadFault; world = w }) (if nat_le MAX_FAULTS (length w.pending) then (let full : Injected = record { reply = Err TooManyFaults; world = w } in full) else kept) here
    (either (nat_le MAX_FAULTS (length w.pending)) (record { reply = Err TooManyFaults; world = w }) kept here (waits (w.pending ++ fault ∷ [])))
  where
    kept : Injected
    kept = record { reply = Ok tt; world = record w { pending = w.pending ++ fault ∷ [] } }

    either : (b : Bool) (x y : Injected) → P x.world → P y.world → P (if b then x else y).world
    either true x y hx hy = hx
    either false x y hx hy = hy

-- where a turn or a loss is refused for want of power
refused : (b : Bool) (w : World) (i : Injected) → b ≡ false → (if not b then (let off : Injected = record { reply = Err no_power; world = w } in off) else i).world ≡ w
refused true w i off = absurd (true≢false off)
refused false w i off = refl

turn_off : (w : World) (z : ℕ) (to : Cond) → w.powered ≡ false → (turn w z to).world ≡ w
unfolding turn
turn_off w z to off = refused w.powered w (unless_bad (not (is_zone w.truth z) || nat_le (severity to) (severity (zone_at w.truth z).cond)) w (record w { truth = turned w.truth z to })) off

lose_off : (w : World) (loss : LossSpec) → w.powered ≡ false → (lose_power w loss).world ≡ w
unfolding lose_power
lose_off w loss off = refused w.powered w (unless_bad (are_bad_cuts w.truth loss.cuts || list_any (is_outside w.truth) loss.cuts) w (record w { truth = lost w.truth loss; powered = false })) off

pub back_truth : (w : World) → (power_on w).truth ≡ w.truth
unfolding power_on
back_truth w = refl

pub back_on : (w : World) → (power_on w).powered ≡ true
unfolding power_on
back_on w = refl

dark_truth : (w : World) (event : Event) → w.powered ≡ false → (after_event w event).truth ≡ w.truth
dark_truth w (Ordered order) off = ap (λ (o : Outcome). o.world.truth) (stays_off w order off)
dark_truth w (FaultAsked fault) off = asked_leaves w fault (λ v. v.truth ≡ w.truth) refl (λ pending. refl)
dark_truth w (Turned z to) off = ap (λ (v : World). v.truth) (turn_off w z to off)
dark_truth w (PowerLost loss) off = ap (λ (v : World). v.truth) (lose_off w loss off)
dark_truth w (LossArmed armed) off = (arm_loss_leaves w armed).truth
dark_truth w PowerBack off = back_truth w

dark_off : (w : World) (event : Event) → w.powered ≡ false → is_dark event ≡ true → (after_event w event).powered ≡ false
dark_off w (Ordered order) off dark = ap (λ (o : Outcome). o.world.powered) (stays_off w order off) ∙ off
dark_off w (FaultAsked fault) off dark = asked_leaves w fault (λ v. v.powered ≡ false) off (λ pending. off)
dark_off w (Turned z to) off dark = ap (λ (v : World). v.powered) (turn_off w z to off) ∙ off
dark_off w (PowerLost loss) off dark = ap (λ (v : World). v.powered) (lose_off w loss off) ∙ off
dark_off w (LossArmed armed) off dark = (arm_loss_leaves w armed).powered ∙ off
dark_off w PowerBack off dark = absurd (true≢false (sym dark))

pub dark_stays : DarkStays
dark_stays = record { truth = dark_truth; off = dark_off; back = back_on }
