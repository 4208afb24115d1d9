-- A read or a report that is done leaves the device as it is.
use Rattle.std.proofs.Common.{◌≡◌, Bool, true, false, List, [], ◌∷◌, Option, Some, None, Ok, Err, refl, sym, ap, ◌∙◌, IsTrue}
use Rattle.std.specs.Prelude.{if◌then◌else◌}
use Rattle.zn_truth.specs.declared.DevError.{DevError}
use Rattle.zn_truth.specs.declared.DevError.TheVariants.{PowerLost}
use Rattle.zn_truth.specs.declared.FaultSpec.{FaultSpec}
use Rattle.zn_truth.specs.declared.Armed.{Armed}
use Rattle.zn_truth.specs.Truth.{Truth}
use Rattle.zn_truth.specs.Orders.{Order, ReadAt, WriteAt, Manage, FlushAll, ReportFrom, Reply, done, done_unless, refusal}
use Rattle.zn_truth.specs.World.{World, Outcome, issue, issue_armed, unarmed, struck, met, meets, faulted, command_of, zones_of, powered_off}
use Rattle.zn_truth.specs.OrderLists.{first_failure, issue_all}
use Rattle.zn_truth.specs.OrderLaws.{is_look}
use Rattle.zn_truth.proofs.OrderLists.{done_goes_on}

-- what is Ok leaves the world
abbrev Leaves : World → Outcome → Type 0
Leaves w o = o.reply ≡ Ok tt → o.world ≡ w

-- a world by its parts
world_of : (w : World) (t : Truth) (powered : Bool) (armed : Option Armed) → t ≡ w.truth → powered ≡ w.powered → armed ≡ w.armed
    → (let v : World = record { truth = t; powered = powered; pending = w.pending; armed = armed } in v) ≡ w
world_of w t powered armed truth on waits =
    ap (λ (u : Truth). let v : World = record { truth = u; powered = powered; pending = w.pending; armed = armed } in v) truth
    ∙ ap (λ (b : Bool). let v : World = record { truth = w.truth; powered = b; pending = w.pending; armed = armed } in v) on
    ∙ ap (λ (a : Option Armed). let v : World = record { truth = w.truth; powered = w.powered; pending = w.pending; armed = a } in v) waits

look_done : (r : Option DevError) (t : Truth) (order : Order) → IsTrue (is_look order) → (done_unless r t order).truth ≡ t
look_done None t (ReadAt z at n) look = refl
look_done None t (ReportFrom first n) look = refl
look_done None t (WriteAt z at bytes) look = absurd (cc)
look_done None t (Manage z op) look = absurd (cc)
look_done None t FlushAll look = absurd (cc)
look_done (Some error) t order look = refl

fault_fails : (t : Truth) (order : Order) (fault : FaultSpec) → IsTrue (is_look order) → (faulted t order fault).reply ≡ Ok tt → ⊥
unfolding faulted
fault_fails t (ReadAt z at n) fault look ok = cc
fault_fails t (ReportFrom first n) fault look ok = cc
fault_fails t (WriteAt z at bytes) fault look ok = absurd (cc)
fault_fails t (Manage z op) fault look ok = absurd (cc)
fault_fails t FlushAll fault look ok = absurd (cc)

struck_leaves : (w : World) (rest : List FaultSpec) (armed : Option Armed) (order : Order) (o : Option FaultSpec) → IsTrue (is_look order) → w.powered ≡ true → w.armed ≡ armed
    → Leaves w (struck w.truth w.pending rest armed order o)
unfolding done
struck_leaves w rest armed order None look on waits = λ ok.
    world_of w (done_unless (refusal w.truth order) w.truth order).truth true armed (look_done (refusal w.truth order) w.truth order look) (sym on) (sym waits)
struck_leaves w rest armed order (Some fault) look on waits = λ ok. absurd (fault_fails w.truth order fault look ok)

either_leaves : (b : Bool) (w : World) (x y : Outcome) (error : DevError) → x.reply ≡ Err error → Leaves w y → Leaves w (if b then x else y)
either_leaves true w x y error fails h = λ ok. absurd (cc)
either_leaves false w x y error fails h = h

armed_leaves : (w : World) (order : Order) (o : Option Armed) → IsTrue (is_look order) → w.powered ≡ true → w.armed ≡ o → Leaves w (issue_armed w order o)
armed_leaves w order None look on waits = struck_leaves w _ None order (met (command_of order) (zones_of order) w.pending) look on waits
armed_leaves w order (Some armed) look on waits =
    either_leaves (meets (command_of order) (zones_of order) armed.command armed.zone.0) w (powered_off w.truth w.pending armed order) (unarmed w order (Some armed)) PowerLost refl
    (struck_leaves w _ (Some armed) order (met (command_of order) (zones_of order) w.pending) look on waits)

powered_leaves : (b : Bool) (w : World) (x y : Outcome) → w.powered ≡ b → y.reply ≡ Err PowerLost → (w.powered ≡ true → Leaves w x) → Leaves w (if b then x else y)
powered_leaves true w x y is lost h = h is
powered_leaves false w x y is lost h = λ ok. absurd (cc)

pub look_leaves_world : (w : World) (order : Order) → IsTrue (is_look order) → (issue w order).reply ≡ Ok tt → (issue w order).world ≡ w
unfolding issue
look_leaves_world w order look =
    powered_leaves w.powered w (issue_armed w order w.armed) (record { reply = Err PowerLost; world = w }) refl refl (λ on. armed_leaves w order w.armed look on refl)

-- where orders are done, the first is, and so are the others
pub first_is_done : (r : Reply) (a b : Outcome) → a.reply ≡ r → (first_failure r a b).reply ≡ Ok tt → (a.reply ≡ Ok tt) × (b.reply ≡ Ok tt)
first_is_done (Ok unit) a b is ok = (is, ok)
first_is_done (Err error) a b is ok = absurd (cc)

-- so do looks one after another: one or two of them
pub one_look_leaves : (w : World) (order : Order) → IsTrue (is_look order) → (issue_all w (order ∷ [])).reply ≡ Ok tt → (issue_all w (order ∷ [])).world ≡ w
one_look_leaves w order look ok =
    let each = first_is_done (issue w order).reply (issue w order) (issue_all (issue w order).world []) refl ok in
    ap (λ (o : Outcome). o.world) (done_goes_on w order [] each.0) ∙ look_leaves_world w order look each.0

pub two_looks_leave : (w : World) (first second : Order) → IsTrue (is_look first) → IsTrue (is_look second) → (issue_all w (first ∷ second ∷ [])).reply ≡ Ok tt → (issue_all w (first ∷ second ∷ [])).world ≡ w
two_looks_leave w first second look also ok =
    let each = first_is_done (issue w first).reply (issue w first) (issue_all (issue w first).world (second ∷ [])) refl ok in
    ap (λ (o : Outcome). o.world) (done_goes_on w first (second ∷ []) each.0) ∙ one_look_leaves (issue w first).world second also each.1 ∙ look_leaves_world w first look each.0
