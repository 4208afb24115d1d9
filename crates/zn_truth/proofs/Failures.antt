-- What a refused order tells of its zone, and what no order changes of a zone.
use Rattle.std.proofs.Common.{◌≡◌, ℕ, zero, suc, ◌+◌, ◌*◌, ◌-◌, ◌/◌, min, Bool, true, false, List, [], ◌∷◌, ◌++◌, map, length, take, Option, Some, None, Ok, Err, refl, sym, ap, ◌∙◌, subst, inl, inr, nat_lt, arith}
use Rattle.std.specs.Prelude.{unwrap_or, ◌==◌, ◌&&◌, not, if◌then◌else◌, slice_index_or}
use Rattle.std.proofs.Math.ListN.{get_or-map}
use Rattle.std.proofs.lemmas.Bool.{cases_lt}
use Rattle.std.proofs.lemmas.Bool.Decides.{nat_tests}
use Rattle.zn_truth.specs.declared.Kind.{Kind}
use Rattle.zn_truth.specs.declared.Kind.TheVariants.{Conventional, Sequential}
use Rattle.zn_truth.specs.declared.Cond.{Cond}
use Rattle.zn_truth.specs.declared.Cond.TheVariants.{Good, ReadOnly as read_only_zone, Offline as offline_zone}
use Rattle.zn_truth.specs.declared.ZoneOp.{ZoneOp}
use Rattle.zn_truth.specs.declared.ZoneOp.TheVariants.{Open, Close, Reset, Finish}
use Rattle.zn_truth.specs.declared.DevError.{DevError}
use Rattle.zn_truth.specs.declared.DevError.TheVariants.{ReadOnly, Offline, Unaligned, TooManyActive, TooManyOpen, BeyondWp, Fault, PowerLost, Broken, Memory}
use Rattle.zn_truth.specs.declared.Shape.{Shape}
use Rattle.zn_truth.specs.declared.FaultSpec.{FaultSpec}
use Rattle.zn_truth.specs.declared.LossSpec.{LossSpec}
use Rattle.zn_truth.specs.declared.Armed.{Armed}
use Rattle.zn_truth.specs.Truth.{Zone, Truth, zone_at, no_zone, with_zone, seen, is_good, is_sequential, is_reached, active, explicit}
use Rattle.zn_truth.specs.Orders.{Order, ReadAt, WriteAt, Manage, FlushAll, ReportFrom, Reply, Done, done, done_unless, effect, written, managed, flushed, refusal, reading, changing, opening, writing, managing}
use Rattle.zn_truth.specs.Power.{settled, clamped, cut_of, stored, zone_lost, zones_lost, lost, cut_write, write_during, during}
use Rattle.zn_truth.specs.World.{World, Outcome, geometry_of, settled_by_flush, faulted, as_fault, met, meets, command_of, zones_of, struck, issue_armed, issue}
use Rattle.zn_truth.specs.OrderLists.{first_failure, issue_all, each_zone}
use Rattle.zn_truth.specs.FailureLaws.{KeepsZones, HasCondition, HasNamedCondition, IsNamedBy, IsNamed, FailsAt, IsInRange}
use Rattle.zn_truth.proofs.Issuing.{same_kind}
use Rattle.std.proofs.Math.Seq.{map-set_same}
use Rattle.std.specs.List.{range_with_len}
use Rattle.zn_truth.proofs.SoundIssue.{if_keeps, issue_keeps, first_failure_keeps, issue-geometry, issue_all-geometry}
use Rattle.zn_truth.proofs.OrderLists.{done_goes_on}

-- ---- conditions stay

-- the condition of each zone
abbrev conditions : Truth → List Cond
conditions t = map (λ zone. zone.cond) t.zones

-- both have the same conditions
abbrev Alike : Truth → Truth → Type 0
Alike t u = conditions u ≡ conditions t

with_zone_alike : (t : Truth) (z : ℕ) (zone : Zone) → zone.cond ≡ (zone_at t z).cond → Alike t (with_zone t z zone)
with_zone_alike t z zone h = map-set_same (λ (zone : Zone). zone.cond) t.zones z (seen t.told zone) no_zone h

written_alike : (k : Kind) (shape : Shape) (zone : Zone) (at : ℕ) (new : List ℕ) → (written k shape zone at new).cond ≡ zone.cond
written_alike Conventional shape zone at new = refl
written_alike Sequential shape zone at new = refl

managed_alike : (op : ZoneOp) (shape : Shape) (zone : Zone) → (managed op shape zone).cond ≡ zone.cond
managed_alike Open shape zone = refl
managed_alike Close shape zone = refl
managed_alike Reset shape zone = refl
managed_alike Finish shape zone = refl

flushed_alike : (zones : List Zone) → map (λ (zone : Zone). zone.cond) (map flushed zones) ≡ map (λ (zone : Zone). zone.cond) zones
flushed_alike [] = refl
flushed_alike (zone ∷ zones) = ap (λ (conds : List Cond). zone.cond ∷ conds) (flushed_alike zones)

effect_alike : (t : Truth) (order : Order) → Alike t (effect t order)
effect_alike t (ReadAt z at n) = refl
effect_alike t (WriteAt z at bytes) = with_zone_alike t z _ (written_alike (zone_at t z).kind t.shape (zone_at t z) at bytes)
effect_alike t (Manage z op) = with_zone_alike t z _ (managed_alike op t.shape (zone_at t z))
effect_alike t FlushAll = flushed_alike t.zones
effect_alike t (ReportFrom first n) = refl

unless_alike : (t : Truth) (order : Order) (r : Option DevError) → Alike t (done_unless r t order).truth
unless_alike t order None = effect_alike t order
unless_alike t order (Some error) = refl

done_alike : (t : Truth) (order : Order) → Alike t (done t order).truth
unfolding done
done_alike t order = unless_alike t order (refusal t order)

flush_alike : (t : Truth) (z keep : ℕ) → Alike t (settled_by_flush t z keep)
unfolding settled_by_flush
flush_alike t z keep = if_keeps (Alike t) (is_sequential (zone_at t z).kind && is_good (zone_at t z).cond) _ t (with_zone_alike t z _ refl) refl

faulted_alike : (t : Truth) (order : Order) (fault : FaultSpec) → Alike t (faulted t order fault).truth
unfolding faulted
faulted_alike t (WriteAt z at bytes) fault = if_keeps (λ (d : Done). Alike t d.truth) (min (unwrap_or fault.keep 0) (length bytes / 4096) == 0) _ _ refl
    (done_alike t (WriteAt z at (take (4096 * min (unwrap_or fault.keep 0) (length bytes / 4096)) bytes)))
faulted_alike t FlushAll fault = flush_alike t fault.zone.0 (unwrap_or fault.keep 0)
faulted_alike t (ReadAt z at n) fault = refl
faulted_alike t (Manage z op) fault = refl
faulted_alike t (ReportFrom first n) fault = refl

cut_write_alike : (t : Truth) (z at : ℕ) (bytes : List ℕ) (loss : LossSpec) → Alike t (cut_write t z at bytes loss)
cut_write_alike t z at bytes loss =
    let cut = unwrap_or (cut_of loss.cuts z) (zone_at t z).durable in
    let before = with_zone t z (settled (zone_at t z) (zone_at t z).durable (clamped (zone_at t z) cut) loss.fill) in
    let same : Alike t before = with_zone_alike t z _ refl in
    let order = WriteAt z at (stored loss.fill (take (4096 * (cut - (zone_at t z).held)) bytes)) in
    let after = (done before order).truth in
    if_keeps (Alike t) (nat_lt (zone_at t z).held cut) _ before
    (with_zone_alike after z (settled (zone_at after z) (zone_at after z).held (zone_at after z).held None) refl ∙ done_alike before order ∙ same)
    same

write_during_alike : (t : Truth) (z at : ℕ) (bytes : List ℕ) (loss : LossSpec) (sequential : Bool) → Alike t (write_during sequential t z at bytes loss)
write_during_alike t z at bytes loss true = cut_write_alike t z at bytes loss
write_during_alike t z at bytes loss false = done_alike t (WriteAt z at bytes)

during_alike : (t : Truth) (order : Order) (carried_out : Bool) (loss : LossSpec) → Alike t (during t order carried_out loss)
unfolding during
during_alike t (WriteAt z at bytes) carried_out loss = write_during_alike t z at bytes loss (is_sequential (zone_at t z).kind)
during_alike t (Manage z Reset) carried_out loss = if_keeps (Alike t) carried_out (done t (Manage z Reset)).truth t (done_alike t (Manage z Reset)) refl
during_alike t (Manage z Finish) carried_out loss = if_keeps (Alike t) carried_out (done t (Manage z Finish)).truth t (done_alike t (Manage z Finish)) refl
during_alike t (Manage z Open) carried_out loss = refl
during_alike t (Manage z Close) carried_out loss = refl
during_alike t (ReadAt z at n) carried_out loss = refl
during_alike t FlushAll carried_out loss = refl
during_alike t (ReportFrom first n) carried_out loss = refl

zone_lost_alike : (k : Kind) (zone : Zone) (z : ℕ) (loss : LossSpec) → (zone_lost k zone z loss).cond ≡ zone.cond
zone_lost_alike Conventional zone z loss = refl
zone_lost_alike Sequential zone z loss = refl

zones_lost_alike : (told : Bool) (z : ℕ) (zones : List Zone) (loss : LossSpec) → map (λ (zone : Zone). zone.cond) (zones_lost told z zones loss) ≡ map (λ (zone : Zone). zone.cond) zones
zones_lost_alike told z [] loss = refl
zones_lost_alike told z (zone ∷ zones) loss =
    ap (λ (c : Cond). c ∷ map (λ (zone : Zone). zone.cond) (zones_lost told (z + 1) zones loss)) (zone_lost_alike zone.kind zone z loss)
    ∙ ap (λ (conds : List Cond). zone.cond ∷ conds) (zones_lost_alike told (z + 1) zones loss)

lost_alike : (t : Truth) (loss : LossSpec) → Alike t (lost t loss)
unfolding lost
lost_alike t loss = zones_lost_alike t.told 0 t.zones loss

issue_alike : (w : World) (order : Order) → Alike w.truth (issue w order).world.truth
issue_alike w order = issue_keeps (Alike w.truth) w order refl (done_alike w.truth order) (λ fault. faulted_alike w.truth order fault)
    (λ carried_out loss. lost_alike (during w.truth order carried_out loss) loss ∙ during_alike w.truth order carried_out loss)

issue_all_alike : (w : World) (orders : List Order) → Alike w.truth (issue_all w orders).world.truth
issue_all_alike w [] = refl
issue_all_alike w (order ∷ orders) = first_failure_keeps (λ v. Alike w.truth v.truth) (issue w order).reply (issue w order) (issue_all (issue w order).world orders)
    (issue_alike w order) (issue_all_alike (issue w order).world orders ∙ issue_alike w order)

-- a zone's condition is the one in the list of conditions
condition_at : (t u : Truth) (z : ℕ) → Alike t u → (zone_at u z).cond ≡ (zone_at t z).cond
condition_at t u z same =
    sym (get_or-map (λ (zone : Zone). zone.cond) u.zones z no_zone)
    ∙ ap (λ (conds : List Cond). slice_index_or conds z offline_zone) same
    ∙ get_or-map (λ (zone : Zone). zone.cond) t.zones z no_zone

kind_stays : (v w : World) (z : ℕ) → geometry_of v ≡ geometry_of w → (zone_at v.truth z).kind ≡ (zone_at w.truth z).kind
unfolding geometry_of
kind_stays v w z same = same_kind w.truth v.truth z same

pub issue_keeps_zones : (w : World) (order : Order) → KeepsZones w (issue w order).world
issue_keeps_zones w order = record {
  conditions = λ z. condition_at w.truth (issue w order).world.truth z (issue_alike w order);
  kinds = λ z. kind_stays (issue w order).world w z (issue-geometry w order);
}

pub issue_all_keeps_zones : (w : World) (orders : List Order) → KeepsZones w (issue_all w orders).world
issue_all_keeps_zones w orders = record {
  conditions = λ z. condition_at w.truth (issue_all w orders).world.truth z (issue_all_alike w orders);
  kinds = λ z. kind_stays (issue_all w orders).world w z (issue_all-geometry w orders);
}

-- ---- what a refusal tells

-- what a refusal, if there is one, says of the zone
abbrev Tells : Option DevError → Order → Truth → Type 0
Tells None order t = Unit {0}
Tells (Some error) order t = IsNamedBy error order t

-- what the reply says of the zone
abbrev Answers : Reply → Order → Truth → Type 0
Answers (Ok unit) order t = Unit {0}
Answers (Err error) order t = IsNamedBy error order t

opening_tells : (t u : Truth) (zone : Zone) (order : Order) → Tells (opening t zone) order u
opening_tells t u zone order =
    if_keeps (λ (r : Option DevError). Tells r order u) zone.explicit _ _ tt
    (if_keeps (λ (r : Option DevError). Tells r order u) ((zone.held == 0) && is_reached t.shape.max_active (active t)) _ _ tt
    (if_keeps (λ (r : Option DevError). Tells r order u) (not (zone.held == t.shape.zone_capacity) && is_reached t.shape.max_open (explicit t)) _ _ tt tt))

read_tells : (t : Truth) (z at n : ℕ) (c : Cond) → (zone_at t z).cond ≡ c → Tells (reading c (if nat_lt (zone_at t z).held (at + n) then Some BeyondWp else None)) (ReadAt z at n) t
read_tells t z at n Good is = by_end (nat_lt (zone_at t z).held (at + n)) refl
  where
    by_end : (b : Bool) → nat_lt (zone_at t z).held (at + n) ≡ b → Tells (if b then Some BeyondWp else None) (ReadAt z at n) t
    by_end true past = grind (arith, nat_tests)
    by_end false past = tt
read_tells t z at n read_only_zone is = by_end (nat_lt (zone_at t z).held (at + n)) refl
  where
    by_end : (b : Bool) → nat_lt (zone_at t z).held (at + n) ≡ b → Tells (if b then Some BeyondWp else None) (ReadAt z at n) t
    by_end true past = grind (arith, nat_tests)
    by_end false past = tt
read_tells t z at n offline_zone is = is

writing_tells : (t : Truth) (z at : ℕ) (bytes : List ℕ) (k : Kind) → (zone_at t z).kind ≡ k → Tells (writing k t (zone_at t z) at) (WriteAt z at bytes) t
writing_tells t z at bytes Conventional is = tt
writing_tells t z at bytes Sequential is = by_end ((zone_at t z).held == at) refl
  where
    differs : (held at : ℕ) → (held == at) ≡ false → held ≡ at → ⊥
    differs held at unlike same = grind (arith, nat_tests)

    by_end : (b : Bool) → ((zone_at t z).held == at) ≡ b → Tells (if b then opening t (zone_at t z) else Some Unaligned) (WriteAt z at bytes) t
    by_end true same = opening_tells t t (zone_at t z) (WriteAt z at bytes)
    by_end false unlike = record { kind = is; held = differs (zone_at t z).held at unlike }

write_tells : (t : Truth) (z at : ℕ) (bytes : List ℕ) (c : Cond) → (zone_at t z).cond ≡ c → Tells (changing c (writing (zone_at t z).kind t (zone_at t z) at)) (WriteAt z at bytes) t
write_tells t z at bytes Good is = writing_tells t z at bytes (zone_at t z).kind refl
write_tells t z at bytes read_only_zone is = is
write_tells t z at bytes offline_zone is = is

managing_tells : (t : Truth) (z : ℕ) (op : ZoneOp) (order : Order) → Tells (managing op t (zone_at t z)) order t
managing_tells t z Open order = opening_tells t t (zone_at t z) order
managing_tells t z Close order = tt
managing_tells t z Reset order = tt
managing_tells t z Finish order = tt

manage_tells : (t : Truth) (z : ℕ) (op : ZoneOp) (c : Cond) → (zone_at t z).cond ≡ c → Tells (changing c (managing op t (zone_at t z))) (Manage z op) t
manage_tells t z op Good is = managing_tells t z op (Manage z op)
manage_tells t z op read_only_zone is = is
manage_tells t z op offline_zone is = is

refusal_tells : (t : Truth) (order : Order) → Tells (refusal t order) order t
refusal_tells t (ReadAt z at n) = read_tells t z at n (zone_at t z).cond refl
refusal_tells t (WriteAt z at bytes) = write_tells t z at bytes (zone_at t z).cond refl
refusal_tells t (Manage z op) = manage_tells t z op (zone_at t z).cond refl
refusal_tells t FlushAll = tt
refusal_tells t (ReportFrom first n) = tt

unless_answers : (r : Option DevError) (t : Truth) (order : Order) → Tells r order t → Answers (done_unless r t order).reply order t
unless_answers None t order h = tt
unless_answers (Some error) t order h = h

done_answers : (t : Truth) (order : Order) → Answers (done t order).reply order t
unfolding done
done_answers t order = unless_answers (refusal t order) t order (refusal_tells t order)

-- a write's error says the same of the zone, whatever bytes are written
same_place : (error : DevError) (t : Truth) (z at : ℕ) (part bytes : List ℕ) → IsNamedBy error (WriteAt z at part) t → IsNamedBy error (WriteAt z at bytes) t
same_place ReadOnly t z at part bytes h = h
same_place Offline t z at part bytes h = h
same_place Unaligned t z at part bytes h = h
same_place TooManyActive t z at part bytes h = tt
same_place TooManyOpen t z at part bytes h = tt
same_place BeyondWp t z at part bytes h = h
same_place Fault t z at part bytes h = tt
same_place PowerLost t z at part bytes h = tt
same_place Broken t z at part bytes h = tt
same_place Memory t z at part bytes h = tt

part_answers : (r : Reply) (t : Truth) (z at : ℕ) (part bytes : List ℕ) → Answers r (WriteAt z at part) t → Answers (as_fault r) (WriteAt z at bytes) t
part_answers (Ok unit) t z at part bytes h = tt
part_answers (Err error) t z at part bytes h = same_place error t z at part bytes h

faulted_answers : (t : Truth) (order : Order) (fault : FaultSpec) → Answers (faulted t order fault).reply order t
unfolding faulted
faulted_answers t (WriteAt z at bytes) fault =
    let part = take (4096 * min (unwrap_or fault.keep 0) (length bytes / 4096)) bytes in
    if_keeps (λ (d : Done). Answers d.reply (WriteAt z at bytes) t) (min (unwrap_or fault.keep 0) (length bytes / 4096) == 0) _ _ tt
    (part_answers (done t (WriteAt z at part)).reply t z at part bytes (done_answers t (WriteAt z at part)))
faulted_answers t FlushAll fault = tt
faulted_answers t (ReadAt z at n) fault = tt
faulted_answers t (Manage z op) fault = tt
faulted_answers t (ReportFrom first n) fault = tt

issue_answers : (w : World) (order : Order) → Answers (issue w order).reply order w.truth
unfolding issue
issue_answers w order = if_keeps (λ (o : Outcome). Answers o.reply order w.truth) w.powered _ _ (by_armed w.armed) tt
  where
    by_fault : (pending rest : List FaultSpec) (armed : Option Armed) (fault : Option FaultSpec) → Answers (struck w.truth pending rest armed order fault).reply order w.truth
    by_fault pending rest armed None = done_answers w.truth order
    by_fault pending rest armed (Some fault) = faulted_answers w.truth order fault

    by_armed : (armed : Option Armed) → Answers (issue_armed w order armed).reply order w.truth
    by_armed None = by_fault w.pending _ None (met (command_of order) (zones_of order) w.pending)
    by_armed (Some armed) = if_keeps (λ (o : Outcome). Answers o.reply order w.truth) (meets (command_of order) (zones_of order) armed.command armed.zone.0) _ _ tt
        (by_fault w.pending _ (Some armed) (met (command_of order) (zones_of order) w.pending))

pub failure_named : (w : World) (order : Order) (error : DevError) → (issue w order).reply ≡ Err error → IsNamed error order w.truth
failure_named w order error is = record { means = subst (λ (r : Reply). Answers r order w.truth) is (issue_answers w order) }

-- ---- where a list fails

had_condition : (cond : Cond) (order : Order) (t u : Truth) → ((z : ℕ) → (zone_at u z).cond ≡ (zone_at t z).cond) → HasCondition cond order u → HasCondition cond order t
had_condition cond (ReadAt z at n) t u same h = sym (same z) ∙ h
had_condition cond (WriteAt z at bytes) t u same h = sym (same z) ∙ h
had_condition cond (Manage z op) t u same h = sym (same z) ∙ h
had_condition cond FlushAll t u same h = h
had_condition cond (ReportFrom first n) t u same h = h

from_start : (error : DevError) (order : Order) (t u : Truth) → ((z : ℕ) → (zone_at u z).cond ≡ (zone_at t z).cond) → IsNamedBy error order u → HasNamedCondition error order t
from_start ReadOnly order t u same h = had_condition read_only_zone order t u same h
from_start Offline order t u same h = had_condition offline_zone order t u same h
from_start Unaligned order t u same h = tt
from_start TooManyActive order t u same h = tt
from_start TooManyOpen order t u same h = tt
from_start BeyondWp order t u same h = tt
from_start Fault order t u same h = tt
from_start PowerLost order t u same h = tt
from_start Broken order t u same h = tt
from_start Memory order t u same h = tt

fails_there : (w : World) (before : List Order) (order : Order) (after : List Order) (error : DevError) → (issue_all w before).reply ≡ Ok tt
    → (issue (issue_all w before).world order).reply ≡ Err error → FailsAt w (before ++ order ∷ after) error
fails_there w before order after error done failed =
    let named = failure_named (issue_all w before).world order error failed in
    record {
      before = before;
      order = order;
      after = after;
      parts = refl;
      done = done;
      failed = failed;
      named = named;
      condition = from_start error order w.truth (issue_all w before).world.truth (issue_all_keeps_zones w before).conditions named.means;
    }

one_more : (w : World) (first : Order) (orders : List Order) (error : DevError) → (issue w first).reply ≡ Ok tt → FailsAt (issue w first).world orders error → FailsAt w (first ∷ orders) error
one_more w first orders error ok rest =
    let goes = done_goes_on w first rest.before ok in
    subst (λ (all : List Order). FailsAt w (first ∷ all) error) (sym rest.parts)
    (fails_there w (first ∷ rest.before) rest.order rest.after error
    (ap (λ (o : Outcome). o.reply) goes ∙ rest.done)
    (ap (λ (o : Outcome). (issue o.world rest.order).reply) goes ∙ rest.failed))

by_first : (w : World) (first : Order) (orders : List Order) (error : DevError) (r : Reply) → (issue w first).reply ≡ r
    → ((issue_all (issue w first).world orders).reply ≡ Err error → FailsAt (issue w first).world orders error)
    → (first_failure r (issue w first) (issue_all (issue w first).world orders)).reply ≡ Err error → FailsAt w (first ∷ orders) error
by_first w first orders error (Ok unit) is rest failed = one_more w first orders error is (rest failed)
by_first w first orders error (Err other) is rest failed = fails_there w [] first orders error refl failed

pub failure_has_order : (w : World) (orders : List Order) (error : DevError) → (issue_all w orders).reply ≡ Err error → FailsAt w orders error
failure_has_order w [] error failed = absurd (cc)
failure_has_order w (first ∷ orders) error failed = by_first w first orders error (issue w first).reply refl (failure_has_order (issue w first).world orders error) failed

-- ---- which order of a range it is

in_range : (order : ℕ → Order) (from n to : ℕ) (before : List Order) (given : Order) (after : List Order) → from + n ≡ to
    → map order (range_with_len from n) ≡ before ++ given ∷ after → IsInRange order from to given
in_range order from zero to [] given after end is = absurd (cc)
in_range order from zero to (first ∷ before) given after end is = absurd (cc)
in_range order from (suc n) to [] given after end is = record { index = from; least = omega arith; below = omega arith; is = cc }
in_range order from (suc n) to (first ∷ before) given after end is =
    let rest = in_range order (from + 1) n to before given after (omega arith) cc in
    record { index = rest.index; least = omega (arith, rest.least); below = rest.below; is = rest.is }

none_in_range : (order : ℕ → Order) (from n : ℕ) (before : List Order) (given : Order) (after : List Order) → n ≡ 0
    → map order (range_with_len from n) ≡ before ++ given ∷ after → ⊥
none_in_range order from n before given after none is = by_none before (subst (λ (k : ℕ). map order (range_with_len from k) ≡ before ++ given ∷ after) none is)
  where
    by_none : (before : List Order) → [] ≡ before ++ given ∷ after → ⊥
    by_none [] h = cc
    by_none (first ∷ before) h = cc

pub each_is_in_range : (order : ℕ → Order) (from to : ℕ) (before : List Order) (given : Order) (after : List Order)
    → each_zone order from to ≡ before ++ given ∷ after → IsInRange order from to given
unfolding each_zone
each_is_in_range order from to before given after is = elim (cases_lt from to) [
  | inl some ↦ in_range order from (to - from) to before given after (omega arith) is
  | inr none ↦ absurd (none_in_range order from (to - from) before given after (omega arith) is)
]
