-- What a sequential zone holds after the power went inside an order, or at rest.
use Rattle.std.proofs.Common.{◌≡◌, inl, inr, ℕ, ◌+◌, ◌/◌, ◌<◌, ◌≤◌, Bool, true, false, List, length, Option, Some, None, refl, sym, ap, ◌∙◌, subst, arith, eq-eqb}
use Rattle.std.specs.Prelude.{if◌then◌else◌, ◌==◌}
use Rattle.std.proofs.lemmas.List.{length-set}
use Rattle.std.proofs.lemmas.Bool.{cases_eq, true≢false}
use Rattle.std.proofs.lemmas.Bool.Decides.{nat_tests}
use Rattle.zn_truth.specs.declared.DevError.{DevError}
use Rattle.zn_truth.specs.declared.Kind.{Kind}
use Rattle.zn_truth.specs.declared.Kind.TheVariants.{Sequential}
use Rattle.zn_truth.specs.declared.LossSpec.{LossSpec}
use Rattle.zn_truth.specs.declared.Shape.{Shape}
use Rattle.zn_truth.specs.declared.ZoneOp.TheVariants.{Open, Close, Reset, Finish}
use Rattle.zn_truth.specs.Truth.{Zone, Truth, zone_at, with_zone, seen, room, IsSound}
use Rattle.zn_truth.specs.Orders.{Order, ReadAt, WriteAt, Manage, FlushAll, ReportFrom, placed, managed, refusal}
use Rattle.zn_truth.specs.Loss.{IsZoneLoss, IsLossOf, stages, stages_unless, IsLossOfOne, IsLossInside}
use Rattle.zn_truth.specs.World.{World, geometry_of}
use Rattle.zn_truth.specs.Obeying.{IsOrderFor}
use Rattle.zn_truth.specs.Inject.{lose_power}
use Rattle.zn_truth.proofs.Losses.{IsFit, fit_of_sound, lost_is_loss}
use Rattle.zn_truth.proofs.LossesInside.{zone_at-with, zone_at-other}
use Rattle.zn_truth.proofs.ArmedLosses.{power_lost_inside}
use Rattle.zn_truth.proofs.SoundInject.{arm_loss_leaves, turn_keeps, lose_power_keeps}
use Rattle.zn_remains.specs.Events.{Event, Ordered, FaultAsked, Turned, PowerLost, LossArmed, PowerBack, after_event, PowerGoes}
use Rattle.zn_remains.specs.Remaining.{IsSequentialZone, StaysDurable, Remains, AllRemain, LossKeeps, empties, issued_end}
use Rattle.zn_remains.proofs.Powers.{goes_told, asked_leaves, back_on}
use Rattle.zn_remains.proofs.Zones.{stays, stays_both, placed_stays, finished_stays, keeps_of, lost_stays}

-- ---- one zone

-- a loss of a zone in which all that was durable stays so
remains_of : (told : Bool) (shape : Shape) (z : ℕ) (event : Event) (old middle new : Zone) → middle.kind ≡ Sequential → middle.cond ≡ old.cond → StaysDurable old middle → middle.held ≤ issued_end shape z event old
    → IsZoneLoss told middle new → Remains told shape z event old new
remains_of told shape z event old middle new kind cond durable most loss = record {
  durable = inl (stays_both old middle new durable (lost_stays told middle new kind loss));
  most = omega (arith, (keeps_of told middle new kind loss).no_more, most);
  blocks = loss.whole;
  whole = loss.durable;
  condition = loss.cond ∙ cond;
  closed = loss.closed;
}

-- a loss of a zone that was emptied
remains_empty : (told : Bool) (shape : Shape) (z : ℕ) (event : Event) (old middle new : Zone) → middle.kind ≡ Sequential → middle.cond ≡ old.cond → middle.held ≡ 0 → empties z event ≡ true
    → IsZoneLoss told middle new → Remains told shape z event old new
remains_empty told shape z event old middle new kind cond none is loss =
    let most = (keeps_of told middle new kind loss).no_more in
    let empty : new.held ≡ 0 = omega (arith, most, none) in
    record {
      durable = inr (is, empty);
      most = omega (arith, empty);
      blocks = loss.whole;
      whole = loss.durable;
      condition = loss.cond ∙ cond;
      closed = loss.closed;
    }

-- an event ends no zone before what it holds
chosen_least : (b : Bool) (n a c : ℕ) → n ≤ a → n ≤ c → n ≤ (if b then a else c)
chosen_least true n a c first second = first
chosen_least false n a c first second = second

end_least : (shape : Shape) (z : ℕ) (event : Event) (zone : Zone) → zone.held ≤ shape.zone_capacity → zone.held ≤ issued_end shape z event zone
end_least shape z (Ordered (WriteAt y at bytes)) zone room = chosen_least (y == z) zone.held (zone.held + length bytes / 4096) zone.held (omega arith) (omega arith)
end_least shape z (Ordered (Manage y Finish)) zone room = chosen_least (y == z) zone.held shape.zone_capacity zone.held room (omega arith)
end_least shape z event zone room = omega arith

-- ---- a truth

pub fit_at : (t : Truth) (z : ℕ) → IsSound t → IsSequentialZone t z → IsFit t.told (zone_at t z)
fit_at t z sound is = fit_of_sound t.told t.shape (zone_at t z) (sound.zones z is.below)

pub room_at : (t : Truth) (z : ℕ) → IsSound t → IsSequentialZone t z → (zone_at t z).held ≤ t.shape.zone_capacity
room_at t z sound is = subst (λ (k : Kind). (zone_at t z).held ≤ room t.shape k) is.kind (sound.zones z is.below).held

-- a loss of the truth as it was
pub lost_before : (t new : Truth) (z : ℕ) (event : Event) → IsSound t → IsSequentialZone t z → IsLossOf t new → Remains t.told t.shape z event (zone_at t z) (zone_at new z)
lost_before t new z event sound is loss =
    remains_of t.told t.shape z event (zone_at t z) (zone_at t z) (zone_at new z) is.kind refl (stays (zone_at t z)) (end_least t.shape z event (zone_at t z) (room_at t z sound is)) (loss.zones z is.below)

-- a loss of the truth with another zone in one's place
lost_with : (t new : Truth) (z y : ℕ) (zone : Zone) (event : Event) → IsSound t → IsSequentialZone t z → IsLossOf (with_zone t y zone) new
    → (y ≡ z → IsZoneLoss t.told (seen t.told zone) (zone_at new z) → Remains t.told t.shape z event (zone_at t z) (zone_at new z)) → Remains t.told t.shape z event (zone_at t z) (zone_at new z)
lost_with t new z y zone event sound is loss here =
    let below : z < length (with_zone t y zone).zones = omega (arith, is.below, length-set t.zones y (seen t.told zone)) in
    let struck = loss.zones z below in
    elim (cases_eq y z) [
      | inl same ↦ here same (subst (λ (v : Zone). IsZoneLoss t.told v (zone_at new z)) (ap (λ (n : ℕ). zone_at (with_zone t n zone) z) same ∙ zone_at-with t z zone is.below) struck)
      | inr other ↦ remains_of t.told t.shape z event (zone_at t z) (zone_at t z) (zone_at new z) is.kind refl (stays (zone_at t z)) (end_least t.shape z event (zone_at t z) (room_at t z sound is))
          (subst (λ (v : Zone). IsZoneLoss t.told v (zone_at new z)) (zone_at-other t y z zone (λ same. other (sym same))) struck)
    ]

-- ---- one order

written_end : (shape : Shape) (y z at : ℕ) (bytes : List ℕ) (zone : Zone) → y ≡ z → zone.held + length bytes / 4096 ≤ issued_end shape z (Ordered (WriteAt y at bytes)) zone
written_end shape y z at bytes zone same = grind (arith, nat_tests)

finished_end : (shape : Shape) (y z : ℕ) (zone : Zone) → y ≡ z → shape.zone_capacity ≤ issued_end shape z (Ordered (Manage y Finish)) zone
finished_end shape y z zone same = grind (arith, nat_tests)

-- the power went inside a write whose bytes were put in place
write_remains : (t new : Truth) (z y at : ℕ) (bytes : List ℕ) → IsSound t → IsSequentialZone t z → IsLossOf (with_zone t y (placed (zone_at t y).kind (zone_at t y) at bytes)) new
    → Remains t.told t.shape z (Ordered (WriteAt y at bytes)) (zone_at t z) (zone_at new z)
write_remains t new z y at bytes sound is loss = lost_with t new z y _ (Ordered (WriteAt y at bytes)) sound is loss (λ same struck.
    let at_z : placed (zone_at t y).kind (zone_at t y) at bytes ≡ placed Sequential (zone_at t z) at bytes =
    ap (λ (n : ℕ). placed (zone_at t n).kind (zone_at t n) at bytes) same ∙ ap (λ (k : Kind). placed k (zone_at t z) at bytes) is.kind in
    remains_of t.told t.shape z (Ordered (WriteAt y at bytes)) (zone_at t z) (seen t.told (placed Sequential (zone_at t z) at bytes)) (zone_at new z) is.kind refl
    (placed_stays t.told (zone_at t z) at bytes (fit_at t z sound is)) (written_end t.shape y z at bytes (zone_at t z) same)
    (subst (λ (v : Zone). IsZoneLoss t.told (seen t.told v) (zone_at new z)) at_z struck))

reset_remains : (t new : Truth) (z y : ℕ) → IsSound t → IsSequentialZone t z → IsLossOf (with_zone t y (managed Reset t.shape (zone_at t y))) new
    → Remains t.told t.shape z (Ordered (Manage y Reset)) (zone_at t z) (zone_at new z)
reset_remains t new z y sound is loss = lost_with t new z y _ (Ordered (Manage y Reset)) sound is loss (λ same struck.
    remains_empty t.told t.shape z (Ordered (Manage y Reset)) (zone_at t z) (seen t.told (managed Reset t.shape (zone_at t z))) (zone_at new z) is.kind refl refl (eq-eqb y z same)
    (subst (λ (n : ℕ). IsZoneLoss t.told (seen t.told (managed Reset t.shape (zone_at t n))) (zone_at new z)) same struck))

finish_remains : (t new : Truth) (z y : ℕ) → IsSound t → IsSequentialZone t z → IsLossOf (with_zone t y (managed Finish t.shape (zone_at t y))) new
    → Remains t.told t.shape z (Ordered (Manage y Finish)) (zone_at t z) (zone_at new z)
finish_remains t new z y sound is loss = lost_with t new z y _ (Ordered (Manage y Finish)) sound is loss (λ same struck.
    remains_of t.told t.shape z (Ordered (Manage y Finish)) (zone_at t z) (seen t.told (managed Finish t.shape (zone_at t z))) (zone_at new z) is.kind refl
    (finished_stays t.told t.shape (zone_at t z) (fit_at t z sound is) (room_at t z sound is)) (finished_end t.shape y z (zone_at t z) same)
    (subst (λ (n : ℕ). IsZoneLoss t.told (seen t.told (managed Finish t.shape (zone_at t n))) (zone_at new z)) same struck))

-- one of the stages of an order that isn't refused
stage_remains : (t new : Truth) (order : Order) (z : ℕ) → IsSound t → IsSequentialZone t z → IsLossOfOne (stages t order) new → Remains t.told t.shape z (Ordered order) (zone_at t z) (zone_at new z)
stage_remains t new (ReadAt y at n) z sound is loss = lost_before t new z (Ordered (ReadAt y at n)) sound is loss
stage_remains t new (WriteAt y at bytes) z sound is loss = write_remains t new z y at bytes sound is loss
stage_remains t new (Manage y Open) z sound is loss = lost_before t new z (Ordered (Manage y Open)) sound is loss
stage_remains t new (Manage y Close) z sound is loss = lost_before t new z (Ordered (Manage y Close)) sound is loss
stage_remains t new (Manage y Reset) z sound is (inl loss) = lost_before t new z (Ordered (Manage y Reset)) sound is loss
stage_remains t new (Manage y Reset) z sound is (inr loss) = reset_remains t new z y sound is loss
stage_remains t new (Manage y Finish) z sound is (inl loss) = lost_before t new z (Ordered (Manage y Finish)) sound is loss
stage_remains t new (Manage y Finish) z sound is (inr loss) = finish_remains t new z y sound is loss
stage_remains t new FlushAll z sound is loss = lost_before t new z (Ordered FlushAll) sound is loss
stage_remains t new (ReportFrom first n) z sound is loss = lost_before t new z (Ordered (ReportFrom first n)) sound is loss

by_refusal : (t new : Truth) (order : Order) (r : Option DevError) (z : ℕ) → IsSound t → IsSequentialZone t z → IsLossOfOne (stages_unless r t order) new
    → Remains t.told t.shape z (Ordered order) (zone_at t z) (zone_at new z)
by_refusal t new order None z sound is loss = stage_remains t new order z sound is loss
by_refusal t new order (Some error) z sound is loss = lost_before t new z (Ordered order) sound is loss

pub inside_remains : (t new : Truth) (order : Order) → IsSound t → IsLossInside t order new → AllRemain t (Ordered order) new
inside_remains t new order sound loss z is = by_refusal t new order (refusal t order) z sound is loss

-- ---- events

order_keeps : (w : World) (order : Order) → IsSound w.truth → IsOrderFor (geometry_of w) order → PowerGoes w (Ordered order) → AllRemain w.truth (Ordered order) (after_event w (Ordered order)).truth
order_keeps w order sound fits goes = inside_remains w.truth _ order sound (power_lost_inside w order sound fits goes.on (goes_told w order goes.on goes.off))

-- a loss that leaves the power off wasn't refused
lost_at_rest : (w : World) (loss : LossSpec) → IsSound w.truth → w.powered ≡ true → (lose_power w loss).world.powered ≡ false → AllRemain w.truth (PowerLost loss) (lose_power w loss).world.truth
lost_at_rest w loss sound on = lose_power_keeps (λ v. v.powered ≡ false → AllRemain w.truth (PowerLost loss) v.truth) w loss (λ off. absurd (true≢false (sym on ∙ off)))
    (λ off z is. lost_before w.truth _ z (PowerLost loss) sound is (lost_is_loss w.truth loss sound))

pub loss_keeps : LossKeeps
loss_keeps w (Ordered order) sound fits goes = order_keeps w order sound fits goes
loss_keeps w (FaultAsked fault) sound fits goes = absurd (true≢false (sym (asked_leaves w fault (λ v. v.powered ≡ true) goes.on (λ pending. goes.on)) ∙ goes.off))
loss_keeps w (Turned z to) sound fits goes = absurd (true≢false (sym (turn_keeps (λ v. v.powered ≡ true) w z to goes.on (λ below worse. goes.on)) ∙ goes.off))
loss_keeps w (PowerLost loss) sound fits goes = lost_at_rest w loss sound goes.on goes.off
loss_keeps w (LossArmed armed) sound fits goes = absurd (true≢false (sym ((arm_loss_leaves w armed).powered ∙ goes.on) ∙ goes.off))
loss_keeps w PowerBack sound fits goes = absurd (true≢false (sym (back_on w) ∙ goes.off))
