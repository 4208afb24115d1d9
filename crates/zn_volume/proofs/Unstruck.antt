-- Orders that nothing strikes fail only where the device refuses one of them.
use Rattle.std.proofs.Common.{◌≡◌, ◌⊎◌, ℕ, Bool, true, List, [], ◌∷◌, ◌++◌, Option, Some, None, Ok, Err, refl, sym, ap, ◌∙◌, subst, inl, inr}
use Rattle.std.specs.Prelude.{All, if◌then◌else◌}
use Rattle.std.proofs.lemmas.Bool.{false≢true}
use Rattle.std.proofs.lemmas.List.Elements.{All-nil, All-cons, All-head, All-tail}
use Rattle.zn_truth.specs.declared.DevError.{DevError}
use Rattle.zn_truth.specs.declared.DevError.TheVariants.{ReadOnly, Offline, Unaligned, TooManyActive, TooManyOpen, BeyondWp, Fault, PowerLost, Broken, Memory}
use Rattle.zn_truth.specs.declared.FaultSpec.{FaultSpec}
use Rattle.zn_truth.specs.declared.Armed.{Armed}
use Rattle.zn_truth.specs.FailureLaws.{FailsAt}
use Rattle.zn_truth.specs.Truth.{Truth}
use Rattle.zn_truth.specs.Orders.{Order, ReportFrom, refusal, done, done_unless}
use Rattle.zn_truth.specs.OrderLists.{issue_all}
use Rattle.zn_truth.specs.World.{World, Outcome, issue, issue_armed, struck, faulted, outcome, met, unmet, command_of, zones_of}
use Rattle.zn_truth.proofs.Issuing.{is_refusal, done_answers, done_no_fault}
use Rattle.zn_truth.proofs.LossReplies.{done_loss, no_loss_told}
use Rattle.zn_truth.proofs.SoundIssue.{first_failure_keeps}
use Rattle.zn_volume.specs.Untroubled.{IsUnstruck}

-- no fault of these is met by the order
abbrev Unmet : List FaultSpec → Order → Type 0
Unmet pending order = met (command_of order) (zones_of order) pending ≡ None

-- the power is on, no loss waits, and these faults do
pub record IsWaiting (pending : List FaultSpec) (w : World) : Type 0 where
  pub powered : w.powered ≡ true
  pub no_loss : w.armed ≡ None
  pub waits : w.pending ≡ pending

-- an order is done, or meets the first fault that waits for it
pub unarmed_issue : (w : World) (order : Order) (fault : Option FaultSpec) → w.powered ≡ true → w.armed ≡ None → met (command_of order) (zones_of order) w.pending ≡ fault
    → issue w order ≡ struck w.truth w.pending (unmet (command_of order) (zones_of order) w.pending) None order fault
unfolding issue
unarmed_issue w order fault powered no_loss is =
    ap (λ (b : Bool). let o : Outcome = if b then issue_armed w order w.armed else (record { reply = Err PowerLost; world = w }) in o) powered
    ∙ ap (λ (armed : Option Armed). issue_armed w order armed) no_loss
    ∙ ap (λ (o : Option FaultSpec). struck w.truth w.pending (unmet (command_of order) (zones_of order) w.pending) None order o) is

pub unstruck_done : (pending : List FaultSpec) (w : World) (order : Order) → IsWaiting pending w → Unmet pending order → issue w order ≡ outcome (done w.truth order) w.pending None
unstruck_done pending w order h none =
    unarmed_issue w order None h.powered h.no_loss (ap (λ (faults : List FaultSpec). met (command_of order) (zones_of order) faults) h.waits ∙ none)

waits_after : (pending : List FaultSpec) (w : World) (order : Order) → IsWaiting pending w → Unmet pending order → IsWaiting pending (issue w order).world
waits_after pending w order h none =
    let e = unstruck_done pending w order h none in
    record {
      powered = ap (λ (o : Outcome). o.world.powered) e;
      no_loss = ap (λ (o : Outcome). o.world.armed) e;
      waits = ap (λ (o : Outcome). o.world.pending) e ∙ h.waits;
    }

pub waits_after_all : (pending : List FaultSpec) (w : World) (orders : List Order) → IsWaiting pending w → All (Unmet pending) orders → IsWaiting pending (issue_all w orders).world
waits_after_all pending w [] h none = h
waits_after_all pending w (order ∷ orders) h none =
    let here = waits_after pending w order h (All-head (Unmet pending) order orders none) in
    first_failure_keeps (IsWaiting pending) (issue w order).reply (issue w order) (issue_all (issue w order).world orders) here
    (waits_after_all pending (issue w order).world orders here (All-tail (Unmet pending) order orders none))

pub unstruck_waits : (w : World) (orders : List Order) → IsUnstruck w orders → IsWaiting w.pending w
unstruck_waits w orders h = record { powered = h.powered; no_loss = h.no_loss; waits = refl }

-- ---- the order that fails

module _ {X : Type 0} (P : X → Type 0) where
  all_before : (before rest : List X) → All P (before ++ rest) → All P before
  all_before [] rest all = All-nil P
  all_before (x ∷ before) rest all = All-cons P x before (All-head P x (before ++ rest) all) (all_before before rest (All-tail P x (before ++ rest) all))

  all_at : (before : List X) (x : X) (after : List X) → All P (before ++ x ∷ after) → P x
  all_at [] x after all = All-head P x after all
  all_at (y ∷ before) x after all = all_at before x after (All-tail P y (before ++ x ∷ after) all)

unless_refused : (r : Option DevError) (t : Truth) (order : Order) (error : DevError) → (done_unless r t order).reply ≡ Err error → r ≡ Some error
unless_refused None t order error h = absurd (cc)
unless_refused (Some other) t order error h = cc

done_refused : (t : Truth) (order : Order) (error : DevError) → (done t order).reply ≡ Err error → refusal t order ≡ Some error
unfolding done
done_refused t order error h = unless_refused (refusal t order) t order error h

-- one order that fails
pub one_refused : (w : World) (order : Order) (error : DevError) → IsUnstruck w (order ∷ []) → (issue w order).reply ≡ Err error → refusal w.truth order ≡ Some error
one_refused w order error h failed =
    let none = All-head (Unmet w.pending) order [] h.unmet in
    done_refused w.truth order error (sym (ap (λ (o : Outcome). o.reply) (unstruck_done w.pending w order (unstruck_waits w (order ∷ []) h) none)) ∙ failed)

-- the order at which a list fails
pub refused_there : (w : World) (orders : List Order) (error : DevError) → IsUnstruck w orders → (fails : FailsAt w orders error) → refusal (issue_all w fails.before).world.truth fails.order ≡ Some error
refused_there w orders error h fails =
    let all = subst (λ (l : List Order). All (Unmet w.pending) l) fails.parts h.unmet in
    let there = waits_after_all w.pending w fails.before (unstruck_waits w orders h) (all_before (Unmet w.pending) fails.before (fails.order ∷ fails.after) all) in
    let none = all_at (Unmet w.pending) fails.before fails.order fails.after all in
    done_refused (issue_all w fails.before).world.truth fails.order error
    (sym (ap (λ (o : Outcome). o.reply) (unstruck_done w.pending (issue_all w fails.before).world fails.order there none)) ∙ fails.failed)

-- what a device refuses for is a condition, a length or a limit
refused_reply : (t : Truth) (order : Order) (error : DevError) → refusal t order ≡ Some error → Err error ≡ (done t order).reply
unfolding done
refused_reply t order error h = sym (ap (λ (r : Option DevError). (done_unless r t order).reply) h)

pub refuses_so : (t : Truth) (order : Order) (error : DevError) → refusal t order ≡ Some error → is_refusal error ≡ true
refuses_so t order error h = by_error error (refused_reply t order error h)
  where
    by_error : (error : DevError) → Err error ≡ (done t order).reply → is_refusal error ≡ true
    by_error ReadOnly is = refl
    by_error Offline is = refl
    by_error Unaligned is = refl
    by_error TooManyActive is = refl
    by_error TooManyOpen is = refl
    by_error BeyondWp is = refl
    by_error Fault is = absurd (done_no_fault t order (Err Fault) is refl)
    by_error PowerLost is = absurd (no_loss_told (done t order).reply (done_loss t order) (sym is))
    by_error Broken is = absurd (false≢true (done_answers t order (Err Broken) is))
    by_error Memory is = absurd (false≢true (done_answers t order (Err Memory) is))

-- ---- a report where no loss waits

report_faulted : (t : Truth) (first n : ℕ) (fault : FaultSpec) → (faulted t (ReportFrom first n) fault).reply ≡ Err Fault
unfolding faulted
report_faulted t first n fault = refl

report_done : (t : Truth) (first n : ℕ) → (done t (ReportFrom first n)).reply ≡ Ok tt
unfolding done
report_done t first n = refl

report_struck : (t : Truth) (pending rest : List FaultSpec) (first n : ℕ) (fault : Option FaultSpec)
    → ((struck t pending rest None (ReportFrom first n) fault).reply ≡ Ok tt) ⊎ ((struck t pending rest None (ReportFrom first n) fault).reply ≡ Err Fault)
report_struck t pending rest first n None = inl (report_done t first n)
report_struck t pending rest first n (Some fault) = inr (report_faulted t first n fault)

-- it is answered, or met by a fault
pub report_answers : (pending : List FaultSpec) (w : World) (first n : ℕ) → IsWaiting pending w
    → ((issue w (ReportFrom first n)).reply ≡ Ok tt) ⊎ ((issue w (ReportFrom first n)).reply ≡ Err Fault)
report_answers pending w first n h =
    subst (λ (o : Outcome). (o.reply ≡ Ok tt) ⊎ (o.reply ≡ Err Fault)) (sym (unarmed_issue w (ReportFrom first n) _ h.powered h.no_loss refl)) (report_struck w.truth w.pending _ first n _)
