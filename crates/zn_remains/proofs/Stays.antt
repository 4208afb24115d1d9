-- What is durable in a sequential zone stays so at every event that neither empties it nor turns it offline.
use Rattle.std.proofs.Common.{◌≡◌, inl, inr, ℕ, ◌*◌, ◌/◌, min, Bool, true, List, length, take, Option, Some, None, Err, refl, sym, ap, ◌∙◌, subst, eq-eqb}
use Rattle.std.specs.Prelude.{not, ◌==◌, ◌&&◌, unwrap_or}
use Rattle.std.proofs.lemmas.Bool.{cases_eq, cases_Bool, true≢false}
use Rattle.std.proofs.lemmas.List.{get_or-map}
use Rattle.zn_truth.specs.declared.Cond.{Cond}
use Rattle.zn_truth.specs.declared.Cond.TheVariants.{Good, ReadOnly, Offline}
use Rattle.zn_truth.specs.declared.DevError.{DevError}
use Rattle.zn_truth.specs.declared.DevError.TheVariants.{Fault}
use Rattle.zn_truth.specs.declared.FaultSpec.{FaultSpec}
use Rattle.zn_truth.specs.declared.Kind.{Kind}
use Rattle.zn_truth.specs.declared.Kind.TheVariants.{Sequential}
use Rattle.zn_truth.specs.declared.LossSpec.{LossSpec}
use Rattle.zn_truth.specs.declared.ZoneOp.{ZoneOp}
use Rattle.zn_truth.specs.declared.ZoneOp.TheVariants.{Open, Close, Reset, Finish}
use Rattle.zn_truth.specs.Truth.{Zone, Truth, zone_at, no_zone, with_zone, seen, is_sequential, is_good, IsSound}
use Rattle.zn_truth.specs.Orders.{Order, ReadAt, WriteAt, Manage, FlushAll, ReportFrom, Done, written, managed, flushed, effect, refusal, done, done_unless}
use Rattle.zn_truth.specs.Loss.{turned_by, turned}
use Rattle.zn_truth.specs.Power.{settled, clamped, lost, during}
use Rattle.zn_truth.specs.World.{World, issue, geometry_of, faulted, settled_by_flush}
use Rattle.zn_truth.specs.Obeying.{IsOrderFor}
use Rattle.zn_truth.proofs.ArmedLosses.{loss_inside}
use Rattle.zn_truth.proofs.Issuing.{is_settled, not_settled}
use Rattle.zn_truth.proofs.Losses.{lost_is_loss}
use Rattle.zn_truth.proofs.LossesInside.{zone_at-with, zone_at-other}
use Rattle.zn_truth.proofs.SoundInject.{arm_loss_leaves, turn_keeps, lose_power_keeps}
use Rattle.zn_truth.proofs.SoundIssue.{if_keeps, issue_keeps}
use Rattle.zn_remains.specs.Events.{Ordered, FaultAsked, Turned, PowerLost, LossArmed, PowerBack, after_event}
use Rattle.zn_remains.specs.Remaining.{IsSequentialZone, StaysDurable, Remains, DurableStays, spares, empties}
use Rattle.zn_remains.proofs.Powers.{asked_leaves, back_truth}
use Rattle.zn_remains.proofs.Remains.{fit_at, room_at, inside_remains}
use Rattle.zn_remains.proofs.Zones.{stays, written_stays, finished_stays, opened_stays, closed_stays, flushed_stays, settled_stays, turned_good_stays, turned_stays, lost_stays}

-- what is durable in a zone of one truth stays so in the same zone of another
abbrev pub ZoneStays : Truth → ℕ → Truth → Type 0
ZoneStays t z u = StaysDurable (zone_at t z) (zone_at u z)

-- another zone in one's place
pub stays_with : (t : Truth) (z y : ℕ) (zone : Zone) → IsSequentialZone t z → (y ≡ z → StaysDurable (zone_at t z) (seen t.told zone)) → ZoneStays t z (with_zone t y zone)
stays_with t z y zone is here = elim (cases_eq y z) [
  | inl same ↦ subst (StaysDurable (zone_at t z)) (sym (ap (λ (n : ℕ). zone_at (with_zone t n zone) z) same ∙ zone_at-with t z zone is.below)) (here same)
  | inr other ↦ subst (StaysDurable (zone_at t z)) (sym (zone_at-other t y z zone (λ same. other (sym same)))) (stays (zone_at t z))
]

-- ---- orders that are done

write_stays : (t : Truth) (z y at : ℕ) (bytes : List ℕ) → IsSound t → IsSequentialZone t z → ZoneStays t z (effect t (WriteAt y at bytes))
write_stays t z y at bytes sound is = stays_with t z y _ is (λ same.
    let at_z : written Sequential t.shape (zone_at t z) at bytes ≡ written (zone_at t y).kind t.shape (zone_at t y) at bytes =
    sym (ap (λ (n : ℕ). written (zone_at t n).kind t.shape (zone_at t n) at bytes) same ∙ ap (λ (k : Kind). written k t.shape (zone_at t z) at bytes) is.kind) in
    subst (λ (v : Zone). StaysDurable (zone_at t z) (seen t.told v)) at_z (written_stays t.told t.shape (zone_at t z) at bytes (fit_at t z sound is)))

-- any order to manage a zone but one that empties it
manage_stays : (t : Truth) (z : ℕ) (op : ZoneOp) → IsSound t → IsSequentialZone t z → spares z (Ordered (Manage z op)) ≡ true → StaysDurable (zone_at t z) (seen t.told (managed op t.shape (zone_at t z)))
manage_stays t z Open sound is spared = opened_stays t.told t.shape (zone_at t z) (fit_at t z sound is)
manage_stays t z Close sound is spared = closed_stays t.told t.shape (zone_at t z) (fit_at t z sound is)
manage_stays t z Finish sound is spared = finished_stays t.told t.shape (zone_at t z) (fit_at t z sound is) (room_at t z sound is)
manage_stays t z Reset sound is spared = absurd (true≢false (sym spared ∙ ap (λ (b : Bool). not b) (eq-eqb z z refl)))

managed_stays : (t : Truth) (z y : ℕ) (op : ZoneOp) → IsSound t → IsSequentialZone t z → spares z (Ordered (Manage y op)) ≡ true → ZoneStays t z (effect t (Manage y op))
managed_stays t z y op sound is spared = stays_with t z y _ is (λ same.
    subst (λ (n : ℕ). spares z (Ordered (Manage n op)) ≡ true → StaysDurable (zone_at t z) (seen t.told (managed op t.shape (zone_at t n)))) (sym same) (manage_stays t z op sound is) spared)

effect_stays : (t : Truth) (z : ℕ) (order : Order) → IsSound t → IsSequentialZone t z → spares z (Ordered order) ≡ true → ZoneStays t z (effect t order)
effect_stays t z (ReadAt y at n) sound is spared = stays (zone_at t z)
effect_stays t z (WriteAt y at bytes) sound is spared = write_stays t z y at bytes sound is
effect_stays t z (Manage y op) sound is spared = managed_stays t z y op sound is spared
effect_stays t z FlushAll sound is spared =
    subst (StaysDurable (zone_at t z)) (sym (get_or-map flushed t.zones z no_zone no_zone is.below)) (flushed_stays t.told (zone_at t z) (fit_at t z sound is))
effect_stays t z (ReportFrom first n) sound is spared = stays (zone_at t z)

unless_stays : (t : Truth) (z : ℕ) (order : Order) (r : Option DevError) → IsSound t → IsSequentialZone t z → spares z (Ordered order) ≡ true → ZoneStays t z (done_unless r t order).truth
unless_stays t z order None sound is spared = effect_stays t z order sound is spared
unless_stays t z order (Some error) sound is spared = stays (zone_at t z)

done_stays : (t : Truth) (z : ℕ) (order : Order) → IsSound t → IsSequentialZone t z → spares z (Ordered order) ≡ true → ZoneStays t z (done t order).truth
unfolding done
done_stays t z order sound is spared = unless_stays t z order (refusal t order) sound is spared

-- ---- orders that a fault meets, or inside which the power goes

settled_zone_stays : (t : Truth) (z y keep : ℕ) → IsSound t → IsSequentialZone t z → ZoneStays t z (settled_by_flush t y keep)
settled_zone_stays t z y keep sound is = elim (cases_Bool (is_sequential (zone_at t y).kind && is_good (zone_at t y).cond)) [
  | inl holds ↦ subst (ZoneStays t z) (sym (is_settled t y keep holds)) (stays_with t z y _ is (λ same.
      subst (λ (n : ℕ). StaysDurable (zone_at t z) (seen t.told (settled (zone_at t n) (clamped (zone_at t n) keep) (clamped (zone_at t n) keep) None))) (sym same) (settled_stays t.told (zone_at t z) keep (fit_at t z sound is))))
  | inr fails ↦ subst (ZoneStays t z) (sym (not_settled t y keep fails)) (stays (zone_at t z))
]

faulted_stays : (t : Truth) (z : ℕ) (order : Order) (fault : FaultSpec) → IsSound t → IsSequentialZone t z → ZoneStays t z (faulted t order fault).truth
unfolding faulted
faulted_stays t z (WriteAt y at bytes) fault sound is = if_keeps (λ (d : Done). ZoneStays t z d.truth) (min (unwrap_or fault.keep 0) (length bytes / 4096) == 0) (record { reply = Err Fault; truth = t }) _ (stays (zone_at t z))
    (done_stays t z (WriteAt y at (take (4096 * min (unwrap_or fault.keep 0) (length bytes / 4096)) bytes)) sound is refl)
faulted_stays t z FlushAll fault sound is = settled_zone_stays t z fault.zone.0 (unwrap_or fault.keep 0) sound is
faulted_stays t z (ReadAt y at n) fault sound is = stays (zone_at t z)
faulted_stays t z (Manage y op) fault sound is = stays (zone_at t z)
faulted_stays t z (ReportFrom first n) fault sound is = stays (zone_at t z)

-- an order that spares a zone doesn't empty it
not_emptied : (z : ℕ) (order : Order) → spares z (Ordered order) ≡ true → empties z (Ordered order) ≡ true → ⊥
not_emptied z (Manage y Reset) spared empty = true≢false (sym spared ∙ ap (λ (b : Bool). not b) empty)
not_emptied z order spared empty = true≢false (sym empty)

remained : (t u : Truth) (z : ℕ) (order : Order) → spares z (Ordered order) ≡ true → Remains t.told t.shape z (Ordered order) (zone_at t z) (zone_at u z) → ZoneStays t z u
remained t u z order spared remains = elim remains.durable [
  | inl durable ↦ durable
  | inr empty ↦ absurd (not_emptied z order spared empty.0)
]

order_stays : (w : World) (order : Order) (z : ℕ) → IsSound w.truth → IsOrderFor (geometry_of w) order → IsSequentialZone w.truth z → spares z (Ordered order) ≡ true → ZoneStays w.truth z (issue w order).world.truth
unfolding geometry_of
order_stays w order z sound fits is spared = issue_keeps (ZoneStays w.truth z) w order (stays (zone_at w.truth z)) (done_stays w.truth z order sound is spared) (λ fault. faulted_stays w.truth z order fault sound is)
    (λ carried_out loss. remained w.truth (lost (during w.truth order carried_out loss) loss) z order spared
    (inside_remains w.truth (lost (during w.truth order carried_out loss) loss) order sound (loss_inside w.truth order carried_out loss sound fits) z is))

-- ---- other events

turned_zone_stays : (t : Truth) (z : ℕ) (to : Cond) → IsSound t → IsSequentialZone t z → spares z (Turned z to) ≡ true → StaysDurable (zone_at t z) (seen t.told (turned_by to (zone_at t z)))
turned_zone_stays t z Good sound is spared = turned_good_stays t.told (zone_at t z) (fit_at t z sound is)
turned_zone_stays t z ReadOnly sound is spared = turned_stays t.told (zone_at t z) (fit_at t z sound is)
turned_zone_stays t z Offline sound is spared = absurd (true≢false (sym spared ∙ ap (λ (b : Bool). not b) (eq-eqb z z refl)))

turned_truth_stays : (t : Truth) (z y : ℕ) (to : Cond) → IsSound t → IsSequentialZone t z → spares z (Turned y to) ≡ true → ZoneStays t z (turned t y to)
unfolding turned
turned_truth_stays t z y to sound is spared = stays_with t z y _ is (λ same.
    subst (λ (n : ℕ). spares z (Turned n to) ≡ true → StaysDurable (zone_at t z) (seen t.told (turned_by to (zone_at t n)))) (sym same) (turned_zone_stays t z to sound is) spared)

lost_truth_stays : (t : Truth) (z : ℕ) (loss : LossSpec) → IsSound t → IsSequentialZone t z → ZoneStays t z (lost t loss)
lost_truth_stays t z loss sound is = lost_stays t.told (zone_at t z) (zone_at (lost t loss) z) is.kind ((lost_is_loss t loss sound).zones z is.below)

-- the same truth
same_stays : (t u : Truth) (z : ℕ) → u ≡ t → ZoneStays t z u
same_stays t u z same = subst (ZoneStays t z) (sym same) (stays (zone_at t z))

pub durable_stays : DurableStays
durable_stays w (Ordered order) z sound fits is spared = order_stays w order z sound fits is spared
durable_stays w (FaultAsked fault) z sound fits is spared = same_stays w.truth (after_event w (FaultAsked fault)).truth z (asked_leaves w fault (λ v. v.truth ≡ w.truth) refl (λ pending. refl))
durable_stays w (Turned y to) z sound fits is spared = turn_keeps (λ v. ZoneStays w.truth z v.truth) w y to (stays (zone_at w.truth z)) (λ below worse. turned_truth_stays w.truth z y to sound is spared)
durable_stays w (PowerLost loss) z sound fits is spared = lose_power_keeps (λ v. ZoneStays w.truth z v.truth) w loss (stays (zone_at w.truth z)) (lost_truth_stays w.truth z loss sound is)
durable_stays w (LossArmed armed) z sound fits is spared = same_stays w.truth (after_event w (LossArmed armed)).truth z (arm_loss_leaves w armed).truth
durable_stays w PowerBack z sound fits is spared = same_stays w.truth (after_event w PowerBack).truth z (back_truth w)
