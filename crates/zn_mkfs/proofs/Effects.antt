-- What orders do where nothing refuses them.
use Rattle.std.proofs.Common.{◌≡◌, ◌*◌, ◌/◌, min, Bool, true, false, List, [], ◌∷◌, ◌++◌, length, take, Option, Some, None, Ok, Err, refl, sym, ap, ◌∙◌, ◌⊎◌, inl, inr, ⊎_elim, subst}
use Rattle.std.specs.Prelude.{◌==◌, unwrap_or, if◌then◌else◌}
use Rattle.zn_truth.specs.declared.DevError.{DevError}
use Rattle.zn_truth.specs.declared.DevError.TheVariants.{Fault, PowerLost}
use Rattle.zn_truth.specs.declared.FaultSpec.{FaultSpec}
use Rattle.zn_truth.specs.declared.Armed.{Armed}
use Rattle.zn_truth.specs.Truth.{Truth}
use Rattle.zn_truth.specs.Orders.{Order, ReadAt, WriteAt, Manage, FlushAll, ReportFrom, Reply, Done, done, done_unless, refusal, effect}
use Rattle.zn_truth.specs.World.{World, Outcome, issue, issue_armed, unarmed, struck, faulted, broken_off, command_of, zones_of, met, meets, powered_off}
use Rattle.zn_truth.specs.OrderLists.{issue_all}
use Rattle.zn_truth.specs.Obeying.{IsAnswered}
use Rattle.zn_truth.proofs.OrderLists.{done_goes_on, failure_ends}
use Rattle.zn_device.specs.States.{DeviceState, Ordered}

-- what orders make of a truth, one after another
abbrev pub effects : Truth → List Order → Truth
effects t [] = t
effects t (order ∷ orders) = effects (effect t order) orders

-- none of them is refused
abbrev pub AllAllowed : Truth → List Order → Type 0
AllAllowed t [] = Unit {0}
AllAllowed t (order ∷ orders) = (refusal t order ≡ None) × AllAllowed (effect t order) orders

pub effects-append : (t : Truth) (first second : List Order) → effects t (first ++ second) ≡ effects (effects t first) second
effects-append t [] second = refl
effects-append t (order ∷ first) second = effects-append (effect t order) first second

pub AllAllowed-append : (t : Truth) (first second : List Order) → AllAllowed t first → AllAllowed (effects t first) second → AllAllowed t (first ++ second)
AllAllowed-append t [] second h k = k
AllAllowed-append t (order ∷ first) second h k = (h.0, AllAllowed-append (effect t order) first second h.1 k)

-- ---- one order

-- done, or met by a fault or a loss of power
abbrev pub IsHarmless : Reply → Type 0
IsHarmless r = (r ≡ Ok tt) ⊎ ((r ≡ Err Fault) ⊎ (r ≡ Err PowerLost))

record IsAllowed (t : Truth) (order : Order) (o : Outcome) : Type 0 where
  reply : IsHarmless o.reply
  truth : o.reply ≡ Ok tt → o.world.truth ≡ effect t order

done_allowed : (t : Truth) (order : Order) → refusal t order ≡ None → done t order ≡ record { reply = Ok tt; truth = effect t order }
unfolding done
done_allowed t order none = ap (λ (r : Option DevError). done_unless r t order) none

either_reply : (b : Bool) (x y : Done) (r : Reply) → x.reply ≡ r → y.reply ≡ r → (if b then x else y).reply ≡ r
either_reply true x y r h k = h
either_reply false x y r h k = k

faulted_allowed : (t : Truth) (order : Order) (fault : FaultSpec) → refusal t order ≡ None → (faulted t order fault).reply ≡ Err Fault
unfolding faulted
faulted_allowed t (WriteAt z at bytes) fault none =
    let n = min (unwrap_or fault.keep 0) (length bytes / 4096) in
    let part = WriteAt z at (take (4096 * n) bytes) in
    either_reply (n == 0) (record { reply = Err Fault; truth = t }) (broken_off (done t part)) (Err Fault) refl
    (ap (λ (d : Done). (broken_off d).reply) (done_allowed t part none))
faulted_allowed t FlushAll fault none = refl
faulted_allowed t (ReadAt z at n) fault none = refl
faulted_allowed t (Manage z op) fault none = refl
faulted_allowed t (ReportFrom first n) fault none = refl

fault_allowed : (t : Truth) (order : Order) (o : Outcome) → o.reply ≡ Err Fault → IsAllowed t order o
fault_allowed t order o h = record { reply = inr (inl h); truth = λ ok. absurd (cc) }

loss_allowed : (t : Truth) (order : Order) (o : Outcome) → o.reply ≡ Err PowerLost → IsAllowed t order o
loss_allowed t order o h = record { reply = inr (inr h); truth = λ ok. absurd (cc) }

struck_allowed : (t : Truth) (pending rest : List FaultSpec) (armed : Option Armed) (order : Order) (o : Option FaultSpec) → refusal t order ≡ None → IsAllowed t order (struck t pending rest armed order o)
struck_allowed t pending rest armed order None none = record {
  reply = inl (ap (λ (d : Done). d.reply) (done_allowed t order none));
  truth = λ ok. ap (λ (d : Done). d.truth) (done_allowed t order none);
}
struck_allowed t pending rest armed order (Some fault) none =
    fault_allowed t order (struck t pending rest armed order (Some fault)) (faulted_allowed t order fault none)

either_allowed : (b : Bool) (t : Truth) (order : Order) (x y : Outcome) → IsAllowed t order x → IsAllowed t order y → IsAllowed t order (if b then x else y)
either_allowed true t order x y h k = h
either_allowed false t order x y h k = k

armed_allowed : (w : World) (order : Order) (o : Option Armed) → refusal w.truth order ≡ None → IsAllowed w.truth order (issue_armed w order o)
armed_allowed w order None none = struck_allowed w.truth w.pending _ None order (met (command_of order) (zones_of order) w.pending) none
armed_allowed w order (Some armed) none =
    either_allowed (meets (command_of order) (zones_of order) armed.command armed.zone.0) w.truth order (powered_off w.truth w.pending armed order) (unarmed w order (Some armed))
    (loss_allowed w.truth order (powered_off w.truth w.pending armed order) refl)
    (struck_allowed w.truth w.pending _ (Some armed) order (met (command_of order) (zones_of order) w.pending) none)

issue_allowed : (w : World) (order : Order) → refusal w.truth order ≡ None → IsAllowed w.truth order (issue w order)
unfolding issue
issue_allowed w order none =
    either_allowed w.powered w.truth order (issue_armed w order w.armed) (record { reply = Err PowerLost; world = w })
    (armed_allowed w order w.armed none) (loss_allowed w.truth order (record { reply = Err PowerLost; world = w }) refl)

-- ---- one after another

record AreAllowed (t : Truth) (orders : List Order) (o : Outcome) : Type 0 where
  reply : IsHarmless o.reply
  truth : o.reply ≡ Ok tt → o.world.truth ≡ effects t orders

failed_here : (w : World) (order : Order) (orders : List Order) (error : DevError) → (issue w order).reply ≡ Err error → IsHarmless (issue w order).reply → AreAllowed w.truth (order ∷ orders) (issue_all w (order ∷ orders))
failed_here w order orders error h harmless =
    subst (λ (o : Outcome). AreAllowed w.truth (order ∷ orders) o) (sym (failure_ends w order orders error h))
    (let here : AreAllowed w.truth (order ∷ orders) (issue w order) = record { reply = harmless; truth = λ ok. absurd (cc) } in here)

goes_on : (w : World) (order : Order) (orders : List Order) → (issue w order).reply ≡ Ok tt → (issue w order).world.truth ≡ effect w.truth order
    → AreAllowed (issue w order).world.truth orders (issue_all (issue w order).world orders) → AreAllowed w.truth (order ∷ orders) (issue_all w (order ∷ orders))
goes_on w order orders h is rest =
    subst (λ (o : Outcome). AreAllowed w.truth (order ∷ orders) o) (sym (done_goes_on w order orders h))
    (let there : AreAllowed w.truth (order ∷ orders) (issue_all (issue w order).world orders) = record {
      reply = rest.reply;
      truth = λ ok. rest.truth ok ∙ ap (λ (t : Truth). effects t orders) is;
    } in there)

all_allowed : (w : World) (orders : List Order) → AllAllowed w.truth orders → AreAllowed w.truth orders (issue_all w orders)
all_allowed w [] h = record { reply = inl refl; truth = λ ok. refl }
all_allowed w (order ∷ orders) h =
    let a = issue_allowed w order h.0 in
    ⊎_elim
    (λ (ok : (issue w order).reply ≡ Ok tt). let is = a.truth ok in
    goes_on w order orders ok is (all_allowed (issue w order).world orders (subst (λ (t : Truth). AllAllowed t orders) (sym is) h.1)))
    (λ (failed : ((issue w order).reply ≡ Err Fault) ⊎ ((issue w order).reply ≡ Err PowerLost)). ⊎_elim
    (λ (fault : (issue w order).reply ≡ Err Fault). failed_here w order orders Fault fault a.reply)
    (λ (lost : (issue w order).reply ≡ Err PowerLost). failed_here w order orders PowerLost lost a.reply) failed)
    a.reply

-- orders that nothing refuses fail by a fault or for want of power alone
pub harmless_failure : (orders : List Order) (error : DevError) (s t : DeviceState) → Ordered orders (Err error) s t → AllAllowed s.world.truth orders → IsAnswered (Err error) → (error ≡ Fault) ⊎ (error ≡ PowerLost)
harmless_failure orders error s t h allowed answered =
    let is : Err error ≡ (issue_all s.world orders).reply = h.obeys.reply answered in
    ⊎_elim
    (λ (ok : (issue_all s.world orders).reply ≡ Ok tt). absurd (cc))
    (λ (failed : ((issue_all s.world orders).reply ≡ Err Fault) ⊎ ((issue_all s.world orders).reply ≡ Err PowerLost)). ⊎_elim
    (λ (fault : (issue_all s.world orders).reply ≡ Err Fault). inl (cc))
    (λ (lost : (issue_all s.world orders).reply ≡ Err PowerLost). inr (cc)) failed)
    (all_allowed s.world orders allowed).reply

-- and where they are done they have their effects
pub done_effects : (orders : List Order) (s t : DeviceState) → Ordered orders (Ok tt) s t → AllAllowed s.world.truth orders → t.world.truth ≡ effects s.world.truth orders
done_effects orders s t h allowed =
    ap (λ (w : World). w.truth) (h.obeys.world refl) ∙ (all_allowed s.world orders allowed).truth (sym (h.obeys.reply refl))
