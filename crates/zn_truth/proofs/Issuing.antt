-- What becomes of an order, case by case.
use Rattle.std.proofs.Common.{◌≡◌, ℕ, Bool, true, false, List, [], length, Option, Some, None, Err, refl, sym, ap, ◌∙◌, subst, arith}
use Rattle.std.proofs.lemmas.List.{length-map}
use Rattle.std.proofs.lemmas.Grind.{common_steps}
use Rattle.std.specs.Prelude.{IsErrOf, ◌==◌, ◌&&◌, if◌then◌else◌}
use Rattle.std.proofs.Math.ListN.{get_or-map}
use Rattle.zn_truth.specs.declared.DevError.{DevError}
use Rattle.zn_truth.specs.declared.DevError.TheVariants.{ReadOnly, Offline, Unaligned, TooManyActive, TooManyOpen, BeyondWp, Fault, PowerLost, Broken, Memory}
use Rattle.zn_truth.specs.declared.Kind.{Kind}
use Rattle.zn_truth.specs.declared.Kind.TheVariants.{Conventional, Sequential}
use Rattle.zn_truth.specs.declared.Cond.{Cond}
use Rattle.zn_truth.specs.declared.Cond.TheVariants.{Good, ReadOnly as read_only_zone, Offline as offline_zone}
use Rattle.zn_truth.specs.declared.ZoneOp.{ZoneOp}
use Rattle.zn_truth.specs.declared.ZoneOp.TheVariants.{Open, Close, Reset, Finish}
use Rattle.zn_truth.specs.declared.FaultSpec.{FaultSpec}
use Rattle.zn_truth.specs.Truth.{Geometry, geometry, Zone, Truth, zone_at, no_zone, with_zone, is_sequential, is_good, kind_at}
use Rattle.zn_truth.specs.Orders.{Order, ReadAt, WriteAt, Manage, FlushAll, ReportFrom, Reply, done, done_unless, refusal, reading, changing, opening, writing, managing}
use Rattle.zn_truth.specs.Power.{settled, clamped}
use Rattle.zn_truth.specs.World.{World, Outcome, geometry_of, issue, calm, met, unmet, command_of, zones_of, faulted, outcome, struck, settled_by_flush}
use Rattle.zn_truth.specs.Obeying.{is_answered}

-- a device with power and nothing that waits does the order
pub calm_done : (t : Truth) (order : Order) → issue (calm t) order ≡ outcome (done t order) [] None
unfolding issue met unmet
calm_done t order = refl

-- over a calm device, a command that meets no fault does what it does there
pub through : (w : World) (order : Order) (powered : Bool) (pending : List FaultSpec) → w ≡ calm w.truth → powered ≡ true → None ≡ met (command_of order) (zones_of order) pending
    → issue (record { truth = w.truth; powered = powered; pending = pending; armed = None }) order ≡ record { reply = (issue w order).reply; world = record { truth = (issue w order).world.truth; powered = true; pending = pending; armed = None } }
unfolding issue
through w order powered pending is_calm on no_fault =
    ap (λ b. issue (record { truth = w.truth; powered = b; pending = pending; armed = None }) order) on
    ∙ ap (struck w.truth pending (unmet (command_of order) (zones_of order) pending) None order) (sym no_fault)
    ∙ sym (ap (λ (x : Outcome). let o : Outcome = record { reply = x.reply; world = record { truth = x.world.truth; powered = true; pending = pending; armed = None } } in o)
    (ap (λ v. issue v order) is_calm ∙ calm_done w.truth order))

-- a command that meets a fault is done as the fault lets it
pub fails : (w : World) (order : Order) (powered : Bool) (pending : List FaultSpec) (fault : FaultSpec) → powered ≡ true → Some fault ≡ met (command_of order) (zones_of order) pending
    → issue (record { truth = w.truth; powered = powered; pending = pending; armed = None }) order ≡ outcome (faulted w.truth order fault) (unmet (command_of order) (zones_of order) pending) None
unfolding issue
fails w order powered pending fault on is_fault =
    ap (λ b. issue (record { truth = w.truth; powered = b; pending = pending; armed = None }) order) on
    ∙ ap (struck w.truth pending (unmet (command_of order) (zones_of order) pending) None order) (sym is_fault)

-- the kind that the geometry tells
pub kind-in_geometry : (t : Truth) (z : ℕ) → kind_at (geometry t) z ≡ (zone_at t z).kind
kind-in_geometry t z = get_or-map (λ zone. zone.kind) t.zones z no_zone

pub kind_is : (w : World) (z : ℕ) → kind_at (geometry_of w) z ≡ (zone_at w.truth z).kind
unfolding geometry_of
kind_is w z = kind-in_geometry w.truth z

-- and how many zones
pub zones-in_geometry : (t : Truth) → length (geometry t).kinds ≡ length t.zones
zones-in_geometry t = length-map t.zones (λ (zone : Zone). zone.kind)

pub kinds-length : (w : World) → length (geometry_of w).kinds ≡ length w.truth.zones
unfolding geometry_of
kinds-length w = zones-in_geometry w.truth

-- a truth of the same geometry has a zone of the same kind, and as many zones
pub same_kind : (t u : Truth) (z : ℕ) → geometry u ≡ geometry t → (zone_at u z).kind ≡ (zone_at t z).kind
same_kind t u z same = sym (kind-in_geometry u z) ∙ ap (λ (g : Geometry). kind_at g z) same ∙ kind-in_geometry t z

pub same_count : (t u : Truth) → geometry u ≡ geometry t → length u.zones ≡ length t.zones
same_count t u same = sym (zones-in_geometry u) ∙ ap (λ (g : Geometry). length g.kinds) same ∙ zones-in_geometry t

pub not_settled : (t : Truth) (z keep : ℕ) → (is_sequential (zone_at t z).kind && is_good (zone_at t z).cond) ≡ false → settled_by_flush t z keep ≡ t
unfolding settled_by_flush
not_settled t z keep h = grind (arith, common_steps)

pub is_settled : (t : Truth) (z keep : ℕ) → (is_sequential (zone_at t z).kind && is_good (zone_at t z).cond) ≡ true
    → settled_by_flush t z keep ≡ with_zone t z (settled (zone_at t z) (clamped (zone_at t z) keep) (clamped (zone_at t z) keep) None)
unfolding settled_by_flush
is_settled t z keep h = grind (arith, common_steps)

pub calm_world : (t u : Truth) (order : Order) → u ≡ (done t order).truth → calm u ≡ (issue (calm t) order).world
calm_world t u order h = ap calm h ∙ sym (ap (λ (o : Outcome). o.world) (calm_done t order))

pub calm_reply : (t : Truth) (r : Reply) (order : Order) → r ≡ (done t order).reply → r ≡ (issue (calm t) order).reply
calm_reply t r order h = h ∙ sym (ap (λ (o : Outcome). o.reply) (calm_done t order))

-- ---- a refusal is an answer, and no fault

abbrev pub is_refusal : DevError → Bool
is_refusal ReadOnly = true
is_refusal Offline = true
is_refusal Unaligned = true
is_refusal TooManyActive = true
is_refusal TooManyOpen = true
is_refusal BeyondWp = true
is_refusal Fault = false
is_refusal PowerLost = false
is_refusal Broken = false
is_refusal Memory = false

abbrev pub all_refuse : Option DevError → Bool
all_refuse None = true
all_refuse (Some error) = is_refusal error

reading_refuses : (c : Cond) (next : Option DevError) → all_refuse next ≡ true → all_refuse (reading c next) ≡ true
reading_refuses Good next h = h
reading_refuses read_only_zone next h = h
reading_refuses offline_zone next h = refl

changing_refuses : (c : Cond) (next : Option DevError) → all_refuse next ≡ true → all_refuse (changing c next) ≡ true
changing_refuses Good next h = h
changing_refuses read_only_zone next h = refl
changing_refuses offline_zone next h = refl

opening_refuses : (t : Truth) (zone : Zone) → all_refuse (opening t zone) ≡ true
opening_refuses t zone = grind (arith)

writing_refuses : (k : Kind) (t : Truth) (zone : Zone) (at : ℕ) → all_refuse (writing k t zone at) ≡ true
writing_refuses Conventional t zone at = refl
writing_refuses Sequential t zone at = at_end t zone (zone.held == at) (opening_refuses t zone)
  where
    at_end : (t : Truth) (zone : Zone) (b : Bool) → all_refuse (opening t zone) ≡ true → all_refuse (if b then opening t zone else Some Unaligned) ≡ true
    at_end t zone true h = h
    at_end t zone false h = refl

managing_refuses : (op : ZoneOp) (t : Truth) (zone : Zone) → all_refuse (managing op t zone) ≡ true
managing_refuses Open t zone = opening_refuses t zone
managing_refuses Close t zone = refl
managing_refuses Reset t zone = refl
managing_refuses Finish t zone = refl

beyond_refuses : (b : Bool) → all_refuse (if b then Some BeyondWp else None) ≡ true
beyond_refuses true = refl
beyond_refuses false = refl

refusal_refuses : (t : Truth) (order : Order) → all_refuse (refusal t order) ≡ true
refusal_refuses t (ReadAt z at n) = reading_refuses (zone_at t z).cond _ (beyond_refuses _)
refusal_refuses t (WriteAt z at bytes) = changing_refuses (zone_at t z).cond _ (writing_refuses (zone_at t z).kind t (zone_at t z) at)
refusal_refuses t (Manage z op) = changing_refuses (zone_at t z).cond _ (managing_refuses op t (zone_at t z))
refusal_refuses t FlushAll = refl
refusal_refuses t (ReportFrom first n) = refl

refusal_answers : (e : DevError) → is_refusal e ≡ true → is_answered (Err e) ≡ true
refusal_answers ReadOnly h = refl
refusal_answers Offline h = refl
refusal_answers Unaligned h = refl
refusal_answers TooManyActive h = refl
refusal_answers TooManyOpen h = refl
refusal_answers BeyondWp h = refl
refusal_answers Fault h = refl
refusal_answers PowerLost h = refl
refusal_answers Broken h = absurd (cc)
refusal_answers Memory h = absurd (cc)

unless_answers : (r : Option DevError) (t : Truth) (order : Order) → all_refuse r ≡ true → is_answered (done_unless r t order).reply ≡ true
unless_answers None t order h = refl
unless_answers (Some e) t order h = refusal_answers e h

pub done_answers : (t : Truth) (order : Order) (r : Reply) → r ≡ (done t order).reply → is_answered r ≡ true
unfolding done
done_answers t order r h = ap is_answered h ∙ unless_answers (refusal t order) t order (refusal_refuses t order)

unless_no_fault : (r : Option DevError) (t : Truth) (order : Order) → all_refuse r ≡ true → IsErrOf (done_unless r t order).reply Fault → ⊥
unless_no_fault None t order h k = cc
unless_no_fault (Some e) t order h k =
    let is : e ≡ Fault = cc in
    let b : is_refusal Fault ≡ true = subst (λ v. is_refusal v ≡ true) is h in
    cc

-- a device without faults answers no fault
pub done_no_fault : (t : Truth) (order : Order) (r : Reply) → r ≡ (done t order).reply → IsErrOf r Fault → ⊥
unfolding done
done_no_fault t order r h k = unless_no_fault (refusal t order) t order (refusal_refuses t order) (subst (λ (v : Reply). IsErrOf v Fault) h k)

-- a read and a report change nothing
unless_read : (r : Option DevError) (t : Truth) (z at n : ℕ) → (done_unless r t (ReadAt z at n)).truth ≡ t
unless_read None t z at n = refl
unless_read (Some e) t z at n = refl

pub read-truth : (t : Truth) (z at n : ℕ) → (done t (ReadAt z at n)).truth ≡ t
unfolding done
read-truth t z at n = unless_read (refusal t (ReadAt z at n)) t z at n

pub report-truth : (t : Truth) (first n : ℕ) → (done t (ReportFrom first n)).truth ≡ t
unfolding done
report-truth t first n = refl
