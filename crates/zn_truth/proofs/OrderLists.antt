-- Orders one after another.
use Rattle.std.proofs.Common.{◌≡◌, ℕ, zero, suc, ◌+◌, ◌-◌, ◌<◌, ◌≤◌, Bool, true, false, List, [], ◌∷◌, ◌++◌, map, Option, Some, None, Ok, Err, refl, sym, ap, ◌∙◌, arith, IsTrue}
use Rattle.std.specs.Prelude.{if◌then◌else◌, ◌&&◌}
use Rattle.std.specs.List.{range_with_len, list_all}
use Rattle.zn_truth.specs.declared.DevError.{DevError}
use Rattle.zn_truth.specs.declared.DevError.TheVariants.{PowerLost}
use Rattle.zn_truth.specs.declared.FaultSpec.{FaultSpec}
use Rattle.zn_truth.specs.declared.Armed.{Armed}
use Rattle.zn_truth.specs.Truth.{Truth}
use Rattle.zn_truth.specs.Orders.{Order, ReadAt, WriteAt, Manage, FlushAll, ReportFrom, Reply, done, done_unless, refusal}
use Rattle.zn_truth.specs.World.{World, Outcome, issue, issue_armed, unarmed, struck, faulted, command_of, zones_of, meets, powered_off}
use Rattle.zn_truth.specs.OrderLists.{first_failure, issue_all, each_zone}
use Rattle.zn_truth.specs.Obeying.{Obeys, ObeysAll, IsAnswered}
use Rattle.zn_truth.specs.OrderLaws.{is_look}

-- ---- lists

pub failure_ends : (w : World) (order : Order) (orders : List Order) (error : DevError) → (issue w order).reply ≡ Err error → issue_all w (order ∷ orders) ≡ issue w order
failure_ends w order orders error h = ap (λ (r : Reply). first_failure r (issue w order) (issue_all (issue w order).world orders)) h

pub done_goes_on : (w : World) (order : Order) (orders : List Order) → (issue w order).reply ≡ Ok tt → issue_all w (order ∷ orders) ≡ issue_all (issue w order).world orders
done_goes_on w order orders h = ap (λ (r : Reply). first_failure r (issue w order) (issue_all (issue w order).world orders)) h

-- the first failure of three
failures_nest : (r : Reply) (a b : Outcome) (go : World → Outcome) → a.reply ≡ r
    → first_failure r a (first_failure b.reply b (go b.world)) ≡ first_failure (first_failure r a b).reply (first_failure r a b) (go (first_failure r a b).world)
failures_nest (Ok unit) a b go h = refl
failures_nest (Err error) a b go h = sym (ap (λ (r : Reply). first_failure r a (go a.world)) h)

pub lists_append : (w : World) (first second : List Order) → issue_all w (first ++ second) ≡ first_failure (issue_all w first).reply (issue_all w first) (issue_all (issue_all w first).world second)
lists_append w [] second = refl
lists_append w (order ∷ first) second =
    ap (first_failure (issue w order).reply (issue w order)) (lists_append (issue w order).world first second)
    ∙ failures_nest (issue w order).reply (issue w order) (issue_all (issue w order).world first) (λ v. issue_all v second) refl

-- ---- orders that only look

unless_keeps : (r : Option DevError) (t : Truth) (order : Order) → IsTrue (is_look order) → (done_unless r t order).truth ≡ t
unless_keeps None t (ReadAt z at n) look = refl
unless_keeps None t (ReportFrom first n) look = refl
unless_keeps None t (WriteAt z at bytes) look = absurd (cc)
unless_keeps None t (Manage z op) look = absurd (cc)
unless_keeps None t FlushAll look = absurd (cc)
unless_keeps (Some error) t order look = refl

fault_keeps : (t : Truth) (order : Order) (fault : FaultSpec) → IsTrue (is_look order) → (faulted t order fault).truth ≡ t
unfolding faulted
fault_keeps t (ReadAt z at n) fault look = refl
fault_keeps t (ReportFrom first n) fault look = refl
fault_keeps t (WriteAt z at bytes) fault look = absurd (cc)
fault_keeps t (Manage z op) fault look = absurd (cc)
fault_keeps t FlushAll fault look = absurd (cc)

struck_keeps : (t : Truth) (pending rest : List FaultSpec) (armed : Option Armed) (order : Order) (o : Option FaultSpec) → IsTrue (is_look order) → (struck t pending rest armed order o).world.truth ≡ t
unfolding done
struck_keeps t pending rest armed order None look = unless_keeps (refusal t order) t order look
struck_keeps t pending rest armed order (Some fault) look = fault_keeps t order fault look

unarmed_keeps : (w : World) (armed : Option Armed) (order : Order) → IsTrue (is_look order) → (unarmed w order armed).world.truth ≡ w.truth
unarmed_keeps w armed order look = struck_keeps w.truth w.pending _ armed order _ look

either_keeps : (b : Bool) (x y : Outcome) (t : Truth) (e : DevError) → x.reply ≡ Err e → y.world.truth ≡ t → (if b then x else y).reply ≡ Ok tt → (if b then x else y).world.truth ≡ t
either_keeps true x y t e lost same ok = absurd (cc)
either_keeps false x y t e lost same ok = same

armed_keeps : (w : World) (o : Option Armed) (order : Order) → IsTrue (is_look order) → (issue_armed w order o).reply ≡ Ok tt → (issue_armed w order o).world.truth ≡ w.truth
armed_keeps w None order look ok = unarmed_keeps w None order look
armed_keeps w (Some armed) order look ok =
    either_keeps (meets (command_of order) (zones_of order) armed.command armed.zone.0) (powered_off w.truth w.pending armed order) (unarmed w order (Some armed)) w.truth PowerLost refl (unarmed_keeps w (Some armed) order look) ok

powered_keeps : (b : Bool) (x y : Outcome) (t : Truth) → y.world.truth ≡ t → (x.reply ≡ Ok tt → x.world.truth ≡ t) → (if b then x else y).reply ≡ Ok tt → (if b then x else y).world.truth ≡ t
powered_keeps true x y t same h ok = h ok
powered_keeps false x y t same h ok = same

pub look_leaves : (w : World) (order : Order) → IsTrue (is_look order) → (issue w order).reply ≡ Ok tt → (issue w order).world.truth ≡ w.truth
unfolding issue
look_leaves w order look ok = powered_keeps w.powered (issue_armed w order w.armed) (record { reply = Err PowerLost; world = w }) w.truth refl (armed_keeps w w.armed order look) ok

pub read_leaves : (w : World) (z at n : ℕ) → (issue w (ReadAt z at n)).reply ≡ Ok tt → (issue w (ReadAt z at n)).world.truth ≡ w.truth
read_leaves w z at n ok = look_leaves w (ReadAt z at n) refl ok

pub report_leaves : (w : World) (first n : ℕ) → (issue w (ReportFrom first n)).reply ≡ Ok tt → (issue w (ReportFrom first n)).world.truth ≡ w.truth
report_leaves w first n ok = look_leaves w (ReportFrom first n) refl ok

-- where a list is done, its first order is, and so are the others
done_all : (r : Reply) (a b : Outcome) → a.reply ≡ r → (first_failure r a b).reply ≡ Ok tt → (r ≡ Ok tt) × (b.reply ≡ Ok tt)
done_all (Ok unit) a b h ok = (refl, ok)
done_all (Err error) a b h ok = absurd (cc)

pub looks_leave : (w : World) (orders : List Order) → IsTrue (list_all is_look orders) → (issue_all w orders).reply ≡ Ok tt → (issue_all w orders).world.truth ≡ w.truth
looks_leave w [] look ok = refl
looks_leave w (order ∷ orders) look ok =
    let each = done_all (issue w order).reply (issue w order) (issue_all (issue w order).world orders) refl ok in
    let both = both_true (is_look order) (list_all is_look orders) look in
    ap (λ (o : Outcome). o.world.truth) (done_goes_on w order orders each.0) ∙ looks_leave (issue w order).world orders both.1 each.1 ∙ look_leaves w order both.0 each.0
  where
    both_true : (a b : Bool) → IsTrue (a && b) → IsTrue a × IsTrue b
    both_true true b h = (refl, h)
    both_true false b h = absurd (cc)

-- ---- one order for each zone of a range

none_of : (f : ℕ → Order) (from n : ℕ) → n ≡ 0 → map f (range_with_len from n) ≡ []
none_of f from n h = rw h refl

pub each_none : (order : ℕ → Order) (from to : ℕ) → to ≤ from → each_zone order from to ≡ []
unfolding each_zone
each_none order from to h = none_of order from (to - from) (omega arith)

first_of_more : (f : ℕ → Order) (from n k : ℕ) → n ≡ suc k → map f (range_with_len from n) ≡ f from ∷ map f (range_with_len (from + 1) k)
first_of_more f from n k h = rw h refl

pub each_first : (order : ℕ → Order) (from to : ℕ) → from < to → each_zone order from to ≡ order from ∷ each_zone order (from + 1) to
unfolding each_zone
each_first order from to h = first_of_more order from (to - from) (to - (from + 1)) (omega arith)

in_two : (f : ℕ → Order) (from middle n k all : ℕ) → middle ≡ from + n → all ≡ n + k → map f (range_with_len from all) ≡ map f (range_with_len from n) ++ map f (range_with_len middle k)
in_two f from middle zero k all at is = let a : all ≡ k = omega arith in let m : middle ≡ from = omega arith in rw (a, m) refl
in_two f from middle (suc n) k all at is =
    let a : all ≡ suc (n + k) = omega arith in
    rw a (ap (λ l. f from ∷ l) (in_two f (from + 1) middle n k (n + k) (omega arith) refl))

pub each_in_two : (order : ℕ → Order) (from middle to : ℕ) → from ≤ middle → middle ≤ to → each_zone order from to ≡ each_zone order from middle ++ each_zone order middle to
unfolding each_zone
each_in_two order from middle to first second = in_two order from middle (middle - from) (to - middle) (to - from) (omega arith) (omega arith)

pub each_one : (order : ℕ → Order) (i : ℕ) → each_zone order i (i + 1) ≡ order i ∷ []
each_one order i = each_first order i (i + 1) (omega arith) ∙ ap (λ l. order i ∷ l) (each_none order (i + 1) (i + 1) (omega arith))

pub each_more : (order : ℕ → Order) (from to : ℕ) → from ≤ to → each_zone order from (to + 1) ≡ each_zone order from to ++ order to ∷ []
each_more order from to h = each_in_two order from to (to + 1) h (omega arith) ∙ ap (λ l. each_zone order from to ++ l) (each_one order to)

-- ---- obeying one order after another

pub obeys_none : (w : World) → ObeysAll [] (Ok tt) w w
obeys_none w = record { reply = λ yes. refl; world = λ yes. refl; geometry = refl }

-- the outcome of orders of which the first are done
after_done : (first second : List Order) (old middle : World) → ObeysAll first (Ok tt) old middle → issue_all old (first ++ second) ≡ issue_all middle second
after_done first second old middle h =
    lists_append old first second
    ∙ ap (λ (r : Reply). first_failure r (issue_all old first) (issue_all (issue_all old first).world second)) (sym (h.reply refl))
    ∙ ap (λ (v : World). issue_all v second) (sym (h.world refl))

pub obeys_append : (first second : List Order) (reply : Reply) (old middle new : World) → ObeysAll first (Ok tt) old middle → ObeysAll second reply middle new → ObeysAll (first ++ second) reply old new
obeys_append first second reply old middle new h k = record {
  reply = λ yes. k.reply yes ∙ sym (ap (λ (o : Outcome). o.reply) (after_done first second old middle h));
  world = λ yes. k.world yes ∙ sym (ap (λ (o : Outcome). o.world) (after_done first second old middle h));
  geometry = k.geometry ∙ h.geometry;
}

one : (w : World) (order : Order) → issue_all w (order ∷ []) ≡ issue w order
one w order = by_reply (issue w order).reply (issue w order) refl
  where
    by_reply : (r : Reply) (o : Outcome) → o.reply ≡ r → first_failure r o (record { reply = Ok tt; world = o.world }) ≡ o
    by_reply (Ok unit) o h = ap (λ (r : Reply). let p : Outcome = record { reply = r; world = o.world } in p) (sym h)
    by_reply (Err error) o h = refl

pub obeys_one : (order : Order) (reply : Reply) (old new : World) → Obeys order reply old new → ObeysAll (order ∷ []) reply old new
obeys_one order reply old new h = record {
  reply = λ yes. h.reply yes ∙ sym (ap (λ (o : Outcome). o.reply) (one old order));
  world = λ yes. h.world yes ∙ sym (ap (λ (o : Outcome). o.world) (one old order));
  geometry = h.geometry;
}

-- orders that fail do so whatever comes after them
pub obeys_failure : (first second : List Order) (error : DevError) (old new : World) → ObeysAll first (Err error) old new → ObeysAll (first ++ second) (Err error) old new
obeys_failure first second error old new h = record {
  reply = λ yes. h.reply yes ∙ sym (ap (λ (o : Outcome). o.reply) (stopped yes));
  world = λ yes. h.world yes ∙ sym (ap (λ (o : Outcome). o.world) (stopped yes));
  geometry = h.geometry;
}
  where
    stopped : IsAnswered (Err error) → issue_all old (first ++ second) ≡ issue_all old first
    stopped answered = lists_append old first second
        ∙ ap (λ (r : Reply). first_failure r (issue_all old first) (issue_all (issue_all old first).world second)) (sym (h.reply answered))

pub obeys_one_more : (order : ℕ → Order) (from i : ℕ) (reply : Reply) (old middle new : World) → from ≤ i → ObeysAll (each_zone order from i) (Ok tt) old middle → Obeys (order i) reply middle new
    → ObeysAll (each_zone order from (i + 1)) reply old new
obeys_one_more order from i reply old middle new le h k =
    rw (each_more order from i le) (obeys_append (each_zone order from i) (order i ∷ []) reply old middle new h (obeys_one (order i) reply middle new k))

pub obeys_stopped : (order : ℕ → Order) (from i to : ℕ) (error : DevError) (old middle new : World) → from ≤ i → i < to → ObeysAll (each_zone order from i) (Ok tt) old middle → Obeys (order i) (Err error) middle new
    → ObeysAll (each_zone order from to) (Err error) old new
obeys_stopped order from i to error old middle new le lt h k =
    rw (each_in_two order from (i + 1) to (omega arith) (omega arith))
    (obeys_failure (each_zone order from (i + 1)) (each_zone order (i + 1) to) error old new (obeys_one_more order from i (Err error) old middle new le h k))

-- ---- without power

pub no_power : (w : World) (order : Order) → w.powered ≡ false → issue w order ≡ record { reply = Err PowerLost; world = w }
unfolding issue
no_power w order off = ap (λ (b : Bool). if b then issue_armed w order w.armed else (record { reply = Err PowerLost; world = w })) off

pub no_power_in_all : (w : World) (order : Order) (orders : List Order) → w.powered ≡ false → issue_all w (order ∷ orders) ≡ record { reply = Err PowerLost; world = w }
no_power_in_all w order orders off =
    failure_ends w order orders PowerLost (ap (λ (o : Outcome). o.reply) (no_power w order off)) ∙ no_power w order off
