-- Faults that wait are used up, and none comes.
use Rattle.std.proofs.Common.{◌≡◌, ℕ, ◌<◌, Bool, true, false, List, [], ◌∷◌, length, Option, Some, None, Ok, Err, refl, sym, ap, ◌∙◌, subst, inl, inr, arith}
use Rattle.std.specs.Prelude.{if◌then◌else◌, position}
use Rattle.std.proofs.lemmas.List.Edits.{length-remove}
use Rattle.std.proofs.lemmas.Option.{slice_get_within}
use Rattle.zn_truth.specs.declared.FaultSpec.{FaultSpec}
use Rattle.zn_truth.specs.declared.Armed.{Armed}
use Rattle.zn_truth.specs.declared.Command.{Command}
use Rattle.zn_truth.specs.declared.Span.{Span}
use Rattle.zn_truth.specs.declared.DevError.TheVariants.{PowerLost}
use Rattle.zn_truth.specs.Orders.{Order, Reply}
use Rattle.zn_truth.specs.World.{World, Outcome, issue, issue_armed, unarmed, struck, met, unmet, meets, meets_fault, fault_at, without, command_of, zones_of, powered_off}
use Rattle.zn_truth.specs.OrderLists.{first_failure, issue_all}
use Rattle.zn_truth.specs.Obeying.{ObeysAll, IsAnswered}
use Rattle.zn_volume.specs.Causes.{AreLeft}

-- ---- joining

pub left_then : (a b c : List FaultSpec) → AreLeft b a → AreLeft c b → AreLeft c a
left_then a b c (inl first) (inl second) = inl (second ∙ first)
left_then a b c (inl first) (inr second) = inr (subst (λ (l : List FaultSpec). length c < length l) first second)
left_then a b c (inr first) (inl second) = inr (subst (λ (l : List FaultSpec). length l < length a) (sym second) first)
left_then a b c (inr first) (inr second) = inr (omega (arith, first, second))

-- where none is used up in the end, none was on the way
pub none_used : (a b c : List FaultSpec) → AreLeft b a → AreLeft c b → c ≡ a → b ≡ a
none_used a b c (inl first) rest same = first
none_used a b c (inr first) (inl second) same =
    absurd (omega (arith, first, ap (λ (l : List FaultSpec). length l) second, ap (λ (l : List FaultSpec). length l) same))
none_used a b c (inr first) (inr second) same = absurd (omega (arith, first, second, ap (λ (l : List FaultSpec). length l) same))

-- ---- one order

fewer_at : (faults : List FaultSpec) (place : Option ℕ) (fault : FaultSpec) → fault_at faults place ≡ Some fault → length (without faults place) < length faults
fewer_at faults None fault is = absurd (cc)
fewer_at faults (Some i) fault is =
    let below = slice_get_within faults i fault is in
    omega (arith, below, length-remove faults i below)

fewer : (command : Command) (zones : Span) (faults : List FaultSpec) (fault : FaultSpec) → met command zones faults ≡ Some fault → length (unmet command zones faults) < length faults
unfolding met unmet
fewer command zones faults fault is = fewer_at faults (position (meets_fault command zones) faults) fault is

struck_leaves : (w : World) (armed : Option Armed) (order : Order) (o : Option FaultSpec) → met (command_of order) (zones_of order) w.pending ≡ o
    → AreLeft (struck w.truth w.pending (unmet (command_of order) (zones_of order) w.pending) armed order o).world.pending w.pending
struck_leaves w armed order None is = inl refl
struck_leaves w armed order (Some fault) is = inr (fewer (command_of order) (zones_of order) w.pending fault is)

either_leaves : (b : Bool) (before : List FaultSpec) (x y : Outcome) → AreLeft x.world.pending before → AreLeft y.world.pending before → AreLeft (if b then x else y).world.pending before
either_leaves true before x y h k = h
either_leaves false before x y h k = k

unarmed_leaves : (w : World) (order : Order) (armed : Option Armed) → AreLeft (unarmed w order armed).world.pending w.pending
unarmed_leaves w order armed = struck_leaves w armed order (met (command_of order) (zones_of order) w.pending) refl

armed_leaves : (w : World) (order : Order) (o : Option Armed) → AreLeft (issue_armed w order o).world.pending w.pending
armed_leaves w order None = unarmed_leaves w order None
armed_leaves w order (Some armed) =
    either_leaves (meets (command_of order) (zones_of order) armed.command armed.zone.0) w.pending (powered_off w.truth w.pending armed order) (unarmed w order (Some armed))
    (inl refl) (unarmed_leaves w order (Some armed))

pub issue_leaves : (w : World) (order : Order) → AreLeft (issue w order).world.pending w.pending
unfolding issue
issue_leaves w order = either_leaves w.powered w.pending (issue_armed w order w.armed) (record { reply = Err PowerLost; world = w }) (armed_leaves w order w.armed) (inl refl)

-- ---- orders one after another

first_leaves : (r : Reply) (before : List FaultSpec) (a b : Outcome) → AreLeft a.world.pending before → AreLeft b.world.pending a.world.pending → AreLeft (first_failure r a b).world.pending before
first_leaves (Ok unit) before a b h k = left_then before a.world.pending b.world.pending h k
first_leaves (Err error) before a b h k = h

all_leave : (w : World) (orders : List Order) → AreLeft (issue_all w orders).world.pending w.pending
all_leave w [] = inl refl
all_leave w (order ∷ orders) =
    first_leaves (issue w order).reply w.pending (issue w order) (issue_all (issue w order).world orders) (issue_leaves w order) (all_leave (issue w order).world orders)

pub orders_leave : (orders : List Order) (reply : Reply) (old new : World) → ObeysAll orders reply old new → IsAnswered reply → AreLeft new.pending old.pending
orders_leave orders reply old new h answered = subst (λ (w : World). AreLeft w.pending old.pending) (sym (h.world answered)) (all_leave old orders)
