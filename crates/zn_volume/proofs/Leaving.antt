-- What a device holds after a report, after a command that a fault met, and after one that it refused.
use Rattle.std.proofs.Common.{◌≡◌, ◌≢◌, ℕ, ◌<◌, Bool, true, false, List, length, Option, Some, None, Ok, Err, refl, sym, ap, ◌∙◌, inl, inr, arith}
use Rattle.std.specs.Prelude.{unwrap_or, if◌then◌else◌, ◌==◌}
use Rattle.std.proofs.lemmas.Bool.{cases_lt, false≢true}
use Rattle.std.proofs.lemmas.Bool.Decides.{nat_tests}
use Rattle.std.proofs.lemmas.List.{get_or_past, get_or-set_same, get_or-set_other}
use Rattle.zn_truth.specs.declared.DevError.{DevError}
use Rattle.zn_truth.specs.declared.DevError.TheVariants.{Fault, PowerLost}
use Rattle.zn_truth.specs.declared.FaultSpec.{FaultSpec}
use Rattle.zn_truth.specs.declared.Armed.{Armed}
use Rattle.zn_truth.specs.declared.ZoneOp.{ZoneOp}
use Rattle.zn_truth.specs.Truth.{Truth, zone_at, no_zone, with_zone}
use Rattle.zn_truth.specs.Orders.{Order, ReadAt, WriteAt, Manage, FlushAll, ReportFrom, Reply, Done, refusal, done, done_unless}
use Rattle.zn_truth.specs.Power.{settled}
use Rattle.zn_truth.specs.World.{World, Outcome, issue, issue_armed, struck, faulted, settled_by_flush, broken_off, as_fault, meets, command_of, zones_of}
use Rattle.zn_truth.proofs.Issuing.{report-truth, is_settled, not_settled}
use Rattle.zn_truth.proofs.SoundIssue.{if_keeps}
use Rattle.zn_device.specs.Causes.{is_refused}
use Rattle.zn_volume.specs.RecoveryLaws.{ReportLeaves, left_by, IsStruck, kept_by, kept_bytes, is_settleable, cut_to, flushed_to, FaultLeaves, RefusalLeaves}
use Rattle.zn_volume.proofs.Unstruck.{unarmed_issue}

-- ---- reports

report_faulted : (t : Truth) (first n : ℕ) (fault : FaultSpec) → (faulted t (ReportFrom first n) fault).truth ≡ t
unfolding faulted
report_faulted t first n fault = refl

report_struck : (t : Truth) (pending rest : List FaultSpec) (armed : Option Armed) (first n : ℕ) (fault : Option FaultSpec) → (struck t pending rest armed (ReportFrom first n) fault).world.truth ≡ t
report_struck t pending rest armed first n None = report-truth t first n
report_struck t pending rest armed first n (Some fault) = report_faulted t first n fault

-- it leaves the truth, unless it is told that the power is lost
abbrev Leaves : Truth → Outcome → Type 0
Leaves t o = o.reply ≢ Err PowerLost → o.world.truth ≡ t

report_armed : (w : World) (first n : ℕ) (armed : Option Armed) → Leaves w.truth (issue_armed w (ReportFrom first n) armed)
report_armed w first n None = λ on. report_struck w.truth w.pending _ None first n _
report_armed w first n (Some armed) = if_keeps (Leaves w.truth) (meets (command_of (ReportFrom first n)) (zones_of (ReportFrom first n)) armed.command armed.zone.0) _ _
    (λ on. absurd (on refl)) (λ on. report_struck w.truth w.pending _ (Some armed) first n _)

pub report_leaves : ReportLeaves
unfolding issue
report_leaves w first n = if_keeps (Leaves w.truth) w.powered _ _ (report_armed w first n w.armed) (λ on. refl)

-- ---- faults

-- what is left is by the first fault that is met
fault_leaves_by : (w : World) (order : Order) (fault : FaultSpec) → IsStruck w order fault → left_by w order ≡ (faulted w.truth order fault).truth
fault_leaves_by w order fault h = ap (λ (o : Outcome). o.world.truth) (unarmed_issue w order (Some fault) h.powered h.no_loss h.first)

read_left : (w : World) (z at n : ℕ) (fault : FaultSpec) → IsStruck w (ReadAt z at n) fault → left_by w (ReadAt z at n) ≡ w.truth
unfolding faulted
read_left w z at n fault h = fault_leaves_by w (ReadAt z at n) fault h

manage_left : (w : World) (z : ℕ) (op : ZoneOp) (fault : FaultSpec) → IsStruck w (Manage z op) fault → left_by w (Manage z op) ≡ w.truth
unfolding faulted
manage_left w z op fault h = fault_leaves_by w (Manage z op) fault h

report_left : (w : World) (first n : ℕ) (fault : FaultSpec) → IsStruck w (ReportFrom first n) fault → left_by w (ReportFrom first n) ≡ w.truth
unfolding faulted
report_left w first n fault h = fault_leaves_by w (ReportFrom first n) fault h

is_none : (n : ℕ) → n ≡ 0 → (n == 0) ≡ true
is_none n h = grind (arith, nat_tests)

is_some : (n : ℕ) → 0 < n → (n == 0) ≡ false
is_some n h = grind (arith, nat_tests)

write_by_kept : (w : World) (z at : ℕ) (bytes : List ℕ) (fault : FaultSpec) (none : Bool) → IsStruck w (WriteAt z at bytes) fault → (kept_by fault bytes == 0) ≡ none
    → left_by w (WriteAt z at bytes) ≡ (let d : Done = if none then (record { reply = Err Fault; truth = w.truth }) else broken_off (done w.truth (WriteAt z at (kept_bytes fault bytes))) in d.truth)
unfolding faulted
write_by_kept w z at bytes fault none h is = fault_leaves_by w (WriteAt z at bytes) fault h
    ∙ ap (λ (b : Bool). let d : Done = if b then (record { reply = Err Fault; truth = w.truth }) else broken_off (done w.truth (WriteAt z at (kept_bytes fault bytes))) in d.truth) is

write_left_none : (w : World) (z at : ℕ) (bytes : List ℕ) (fault : FaultSpec) → IsStruck w (WriteAt z at bytes) fault → kept_by fault bytes ≡ 0 → left_by w (WriteAt z at bytes) ≡ w.truth
write_left_none w z at bytes fault h none = write_by_kept w z at bytes fault true h (is_none (kept_by fault bytes) none)

write_left_some : (w : World) (z at : ℕ) (bytes : List ℕ) (fault : FaultSpec) → IsStruck w (WriteAt z at bytes) fault → 0 < kept_by fault bytes
    → left_by w (WriteAt z at bytes) ≡ (done w.truth (WriteAt z at (kept_bytes fault bytes))).truth
write_left_some w z at bytes fault h some = write_by_kept w z at bytes fault false h (is_some (kept_by fault bytes) some)

-- ---- flushes

flush_left : (w : World) (fault : FaultSpec) → IsStruck w FlushAll fault → left_by w FlushAll ≡ settled_by_flush w.truth fault.zone.0 (unwrap_or fault.keep 0)
unfolding faulted
flush_left w fault h = fault_leaves_by w FlushAll fault h

flush_uncut : (w : World) (fault : FaultSpec) → IsStruck w FlushAll fault → is_settleable (zone_at w.truth fault.zone.0) ≡ false → left_by w FlushAll ≡ w.truth
flush_uncut w fault h not_so = flush_left w fault h ∙ not_settled w.truth fault.zone.0 (unwrap_or fault.keep 0) not_so

-- the zone that is cut, and how much of it is left
flush_settles : (w : World) (fault : FaultSpec) → IsStruck w FlushAll fault → is_settleable (zone_at w.truth fault.zone.0) ≡ true
    → left_by w FlushAll ≡ (let z = fault.zone.0 in let n = flushed_to fault (zone_at w.truth fault.zone.0) in with_zone w.truth z (settled (zone_at w.truth z) n n None))
flush_settles w fault h can = flush_left w fault h ∙ is_settled w.truth fault.zone.0 (unwrap_or fault.keep 0) can

flush_others : (w : World) (fault : FaultSpec) → IsStruck w FlushAll fault → (z : ℕ) → z ≢ fault.zone.0 → zone_at (left_by w FlushAll) z ≡ zone_at w.truth z
flush_others w fault h z other = elim (is_settleable (zone_at w.truth fault.zone.0)) as (λ (b : Bool). is_settleable (zone_at w.truth fault.zone.0) ≡ b → zone_at (left_by w FlushAll) z ≡ zone_at w.truth z) [
  | true ↦ λ can. ap (λ (t : Truth). zone_at t z) (flush_settles w fault h can) ∙ get_or-set_other w.truth.zones fault.zone.0 z _ no_zone other
  | false ↦ λ not_so. ap (λ (t : Truth). zone_at t z) (flush_uncut w fault h not_so)
] refl

-- a zone that can be settled is there
is_there : (t : Truth) (z : ℕ) → is_settleable (zone_at t z) ≡ true → z < length t.zones
is_there t z can = elim (cases_lt z (length t.zones)) [
  | inl below ↦ below
  | inr past ↦ absurd (false≢true (sym (ap is_settleable (get_or_past t.zones z no_zone past)) ∙ can))
]

flush_cut : (w : World) (fault : FaultSpec) → IsStruck w FlushAll fault → is_settleable (zone_at w.truth fault.zone.0) ≡ true
    → zone_at (left_by w FlushAll) fault.zone.0 ≡ cut_to w.truth.told (zone_at w.truth fault.zone.0) (flushed_to fault (zone_at w.truth fault.zone.0))
flush_cut w fault h can = ap (λ (t : Truth). zone_at t fault.zone.0) (flush_settles w fault h can)
    ∙ get_or-set_same w.truth.zones fault.zone.0 _ no_zone (is_there w.truth fault.zone.0 can)

pub fault_leaves : FaultLeaves
fault_leaves = record {
  read = read_left;
  manage = manage_left;
  report = report_left;
  write_none = write_left_none;
  write_some = write_left_some;
  flush_others = flush_others;
  flush_cut = flush_cut;
  flush_uncut = flush_uncut;
}

-- ---- refusals

-- where it answers a refusal, it leaves the truth
abbrev LeavesRefused : Truth → Reply → Truth → Type 0
LeavesRefused t r u = is_refused r ≡ true → u ≡ t

unless_left : (r : Option DevError) (t : Truth) (order : Order) → LeavesRefused t (done_unless r t order).reply (done_unless r t order).truth
unless_left None t order h = absurd (false≢true h)
unless_left (Some error) t order h = refl

done_left : (t : Truth) (order : Order) → LeavesRefused t (done t order).reply (done t order).truth
unfolding done
done_left t order = unless_left (refusal t order) t order

-- a refusal of the part of a write that a fault lets through
broken_left : (t u : Truth) (r : Reply) → LeavesRefused t r u → LeavesRefused t (as_fault r) u
broken_left t u (Ok unit) h k = absurd (false≢true k)
broken_left t u (Err error) h k = h k

faulted_left : (t : Truth) (order : Order) (fault : FaultSpec) → LeavesRefused t (faulted t order fault).reply (faulted t order fault).truth
unfolding faulted
faulted_left t (WriteAt z at bytes) fault = if_keeps (λ (d : Done). LeavesRefused t d.reply d.truth) (kept_by fault bytes == 0) _ _ (λ h. refl)
    (broken_left t (done t (WriteAt z at (kept_bytes fault bytes))).truth (done t (WriteAt z at (kept_bytes fault bytes))).reply (done_left t (WriteAt z at (kept_bytes fault bytes))))
faulted_left t FlushAll fault = λ h. absurd (false≢true h)
faulted_left t (ReadAt z at n) fault = λ h. refl
faulted_left t (Manage z op) fault = λ h. refl
faulted_left t (ReportFrom first n) fault = λ h. refl

struck_left : (t : Truth) (pending rest : List FaultSpec) (armed : Option Armed) (order : Order) (fault : Option FaultSpec)
    → LeavesRefused t (struck t pending rest armed order fault).reply (struck t pending rest armed order fault).world.truth
struck_left t pending rest armed order None = done_left t order
struck_left t pending rest armed order (Some fault) = faulted_left t order fault

-- the same of an outcome
abbrev RefusedLeaves : Truth → Outcome → Type 0
RefusedLeaves t o = LeavesRefused t o.reply o.world.truth

armed_left : (w : World) (order : Order) (armed : Option Armed) → RefusedLeaves w.truth (issue_armed w order armed)
armed_left w order None = struck_left w.truth w.pending _ None order _
armed_left w order (Some armed) = if_keeps (RefusedLeaves w.truth) (meets (command_of order) (zones_of order) armed.command armed.zone.0) _ _
    (λ h. absurd (false≢true h)) (struck_left w.truth w.pending _ (Some armed) order _)

answered_left : (w : World) (order : Order) → is_refused (issue w order).reply ≡ true → left_by w order ≡ w.truth
unfolding issue
answered_left w order = if_keeps (RefusedLeaves w.truth) w.powered _ _ (armed_left w order w.armed) (λ h. refl)

-- a command that the device refuses, whatever meets it
unless_stays : (r : Option DevError) (t : Truth) (order : Order) (error : DevError) → r ≡ Some error → (done_unless r t order).truth ≡ t
unless_stays None t order error h = absurd (cc)
unless_stays (Some other) t order error h = refl

done_stays : (t : Truth) (order : Order) (error : DevError) → refusal t order ≡ Some error → (done t order).truth ≡ t
unfolding done
done_stays t order error h = unless_stays (refusal t order) t order error h

faulted_stays : (t : Truth) (order : Order) (fault : FaultSpec) (error : DevError) → refusal t order ≡ Some error → (faulted t order fault).truth ≡ t
unfolding faulted
faulted_stays t (WriteAt z at bytes) fault error h = if_keeps (λ (d : Done). d.truth ≡ t) (kept_by fault bytes == 0) _ _ refl
    (done_stays t (WriteAt z at (kept_bytes fault bytes)) error h)
faulted_stays t FlushAll fault error h = absurd (cc)
faulted_stays t (ReadAt z at n) fault error h = refl
faulted_stays t (Manage z op) fault error h = refl
faulted_stays t (ReportFrom first n) fault error h = refl

struck_stays : (t : Truth) (pending rest : List FaultSpec) (armed : Option Armed) (order : Order) (error : DevError) (fault : Option FaultSpec) → refusal t order ≡ Some error
    → (struck t pending rest armed order fault).world.truth ≡ t
struck_stays t pending rest armed order error None h = done_stays t order error h
struck_stays t pending rest armed order error (Some fault) h = faulted_stays t order fault error h

fitting_left : (w : World) (order : Order) (error : DevError) → w.armed ≡ None → refusal w.truth order ≡ Some error → left_by w order ≡ w.truth
unfolding issue
fitting_left w order error no_loss h = if_keeps (λ (o : Outcome). o.world.truth ≡ w.truth) w.powered _ _
    (ap (λ (armed : Option Armed). (issue_armed w order armed).world.truth) no_loss ∙ struck_stays w.truth w.pending _ None order error _ h) refl

pub refusal_leaves : RefusalLeaves
refusal_leaves = record { answered = answered_left; fitting = fitting_left }
