-- Nothing changes whether a device tells its bytes.
use Rattle.std.proofs.Common.{◌≡◌, ℕ, ◌*◌, ◌-◌, ◌/◌, min, Bool, true, false, List, [], ◌∷◌, length, take, Option, Some, None, refl, ap, ◌∙◌, nat_lt, rules}
use Rattle.std.specs.Prelude.{unwrap_or, ◌==◌, ◌&&◌}
use Rattle.zn_truth.specs.declared.Cond.{Cond}
use Rattle.zn_truth.specs.declared.ZoneOp.TheVariants.{Open, Close, Reset, Finish}
use Rattle.zn_truth.specs.declared.DevError.{DevError}
use Rattle.zn_truth.specs.declared.FaultSpec.{FaultSpec}
use Rattle.zn_truth.specs.declared.LossSpec.{LossSpec}
use Rattle.zn_truth.specs.Truth.{Truth, zone_at, with_zone, is_good, is_sequential}
use Rattle.zn_truth.specs.Orders.{Order, ReadAt, WriteAt, Manage, FlushAll, ReportFrom, Done, done, done_unless, refusal, effect}
use Rattle.zn_truth.specs.Power.{settled, clamped, cut_of, stored, lost, cut_write, write_during, during}
use Rattle.zn_truth.specs.Loss.{turned}
use Rattle.zn_truth.specs.Inject.{inject, turn, lose_power, arm_loss}
use Rattle.zn_truth.specs.World.{World, settled_by_flush, faulted, issue}
use Rattle.zn_truth.specs.OrderLists.{issue_all}
use Rattle.zn_truth.specs.declared.Armed.{Armed}
use Rattle.zn_truth.proofs.SoundInject.{turn_keeps, lose_power_keeps, arm_loss_leaves}
use Rattle.zn_truth.proofs.SoundIssue.{if_keeps, issue_keeps, first_failure_keeps}

-- it tells its bytes exactly where the other does
abbrev pub Tells : Truth → Truth → Type 0
Tells t u = u.told ≡ t.told

effect_told : (t : Truth) (order : Order) → Tells t (effect t order)
effect_told t (ReadAt z at n) = refl
effect_told t (WriteAt z at bytes) = refl
effect_told t (Manage z op) = refl
effect_told t FlushAll = refl
effect_told t (ReportFrom first n) = refl

unless_told : (t : Truth) (order : Order) (r : Option DevError) → Tells t (done_unless r t order).truth
unless_told t order None = effect_told t order
unless_told t order (Some error) = refl

pub done_told : (t : Truth) (order : Order) → Tells t (done t order).truth
unfolding done
done_told t order = unless_told t order (refusal t order)

flush_told : (t : Truth) (z keep : ℕ) → Tells t (settled_by_flush t z keep)
unfolding settled_by_flush
flush_told t z keep = if_keeps (Tells t) (is_sequential (zone_at t z).kind && is_good (zone_at t z).cond) _ t refl refl

faulted_told : (t : Truth) (order : Order) (fault : FaultSpec) → Tells t (faulted t order fault).truth
unfolding faulted
faulted_told t (WriteAt z at bytes) fault = if_keeps (λ (d : Done). Tells t d.truth) (min (unwrap_or fault.keep 0) (length bytes / 4096) == 0) _ _ refl
    (done_told t (WriteAt z at (take (4096 * min (unwrap_or fault.keep 0) (length bytes / 4096)) bytes)))
faulted_told t FlushAll fault = flush_told t fault.zone.0 (unwrap_or fault.keep 0)
faulted_told t (ReadAt z at n) fault = refl
faulted_told t (Manage z op) fault = refl
faulted_told t (ReportFrom first n) fault = refl

cut_write_told : (t : Truth) (z at : ℕ) (bytes : List ℕ) (loss : LossSpec) → Tells t (cut_write t z at bytes loss)
cut_write_told t z at bytes loss =
    let cut = unwrap_or (cut_of loss.cuts z) (zone_at t z).durable in
    let before = with_zone t z (settled (zone_at t z) (zone_at t z).durable (clamped (zone_at t z) cut) loss.fill) in
    let order = WriteAt z at (stored loss.fill (take (4096 * (cut - (zone_at t z).held)) bytes)) in
    if_keeps (Tells t) (nat_lt (zone_at t z).held cut) _ before (done_told before order) refl

write_during_told : (t : Truth) (z at : ℕ) (bytes : List ℕ) (loss : LossSpec) (sequential : Bool) → Tells t (write_during sequential t z at bytes loss)
write_during_told t z at bytes loss true = cut_write_told t z at bytes loss
write_during_told t z at bytes loss false = done_told t (WriteAt z at bytes)

during_told : (t : Truth) (order : Order) (carried_out : Bool) (loss : LossSpec) → Tells t (during t order carried_out loss)
unfolding during
during_told t (WriteAt z at bytes) carried_out loss = write_during_told t z at bytes loss (is_sequential (zone_at t z).kind)
during_told t (Manage z Reset) carried_out loss = if_keeps (Tells t) carried_out (done t (Manage z Reset)).truth t (done_told t (Manage z Reset)) refl
during_told t (Manage z Finish) carried_out loss = if_keeps (Tells t) carried_out (done t (Manage z Finish)).truth t (done_told t (Manage z Finish)) refl
during_told t (Manage z Open) carried_out loss = refl
during_told t (Manage z Close) carried_out loss = refl
during_told t (ReadAt z at n) carried_out loss = refl
during_told t FlushAll carried_out loss = refl
during_told t (ReportFrom first n) carried_out loss = refl

lost_told : (t : Truth) (loss : LossSpec) → Tells t (lost t loss)
unfolding lost
lost_told t loss = refl

pub issue_told : (w : World) (order : Order) → Tells w.truth (issue w order).world.truth
issue_told w order = issue_keeps (Tells w.truth) w order refl (done_told w.truth order) (λ fault. faulted_told w.truth order fault)
    (λ carried_out loss. lost_told (during w.truth order carried_out loss) loss ∙ during_told w.truth order carried_out loss)

pub issue_all_told : (w : World) (orders : List Order) → Tells w.truth (issue_all w orders).world.truth
issue_all_told w [] = refl
issue_all_told w (order ∷ orders) = first_failure_keeps (λ v. Tells w.truth v.truth) (issue w order).reply (issue w order) (issue_all (issue w order).world orders)
    (issue_told w order) (issue_all_told (issue w order).world orders ∙ issue_told w order)

-- ---- faults, turns, losses and return of power

pub inject_told : (w : World) (fault : FaultSpec) → Tells w.truth (inject w fault).world.truth
unfolding inject
inject_told w fault = search rules

pub turn_told : (w : World) (z : ℕ) (to : Cond) → Tells w.truth (turn w z to).world.truth
unfolding turned
turn_told w z to = turn_keeps (λ v. Tells w.truth v.truth) w z to refl (λ below worse. refl)

pub lose_power_told : (w : World) (loss : LossSpec) → Tells w.truth (lose_power w loss).world.truth
lose_power_told w loss = lose_power_keeps (λ v. Tells w.truth v.truth) w loss refl (lost_told w.truth loss)

pub arm_loss_told : (w : World) (armed : Armed) → Tells w.truth (arm_loss w armed).world.truth
arm_loss_told w armed = ap (λ (t : Truth). t.told) (arm_loss_leaves w armed).truth
