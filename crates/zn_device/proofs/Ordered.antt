-- Commands one after another.
use Rattle.std.proofs.Common.{◌≡◌, ℕ, ◌+◌, ◌*◌, ◌/◌, ◌<◌, ◌≤◌, min, Bool, true, false, List, [], ◌∷◌, ◌++◌, length, take, Option, Some, None, Ok, Err, refl, sym, ap, ◌∙◌, subst, append_assoc, arith}
use Rattle.std.specs.Prelude.{◌==◌, unwrap_or, if◌then◌else◌}
use Rattle.zn_truth.specs.declared.DevError.{DevError}
use Rattle.zn_truth.specs.declared.DevError.TheVariants.{Fault, PowerLost}
use Rattle.zn_truth.specs.declared.FaultSpec.{FaultSpec}
use Rattle.zn_truth.specs.declared.Armed.{Armed}
use Rattle.zn_truth.specs.Truth.{Truth}
use Rattle.zn_truth.specs.Orders.{Order, ReadAt, WriteAt, Manage, FlushAll, ReportFrom, Reply, Done, done}
use Rattle.zn_truth.specs.World.{World, Outcome, geometry_of, issue, issue_armed, unarmed, met, struck, faulted, broken_off, command_of, zones_of, meets, powered_off}
use Rattle.zn_truth.specs.OrderLists.{first_failure, issue_all, each_zone}
use Rattle.zn_truth.specs.Obeying.{is_answered, ObeysAll}
use Rattle.zn_truth.proofs.OrderLists.{obeys_none, obeys_one, obeys_append, obeys_failure, each_in_two, each_more, each_none, done_goes_on, no_power_in_all}
use Rattle.zn_truth.proofs.SoundIssue.{issue_all-geometry}
use Rattle.zn_device.specs.Causes.{DeviceCause}
use Rattle.zn_device.specs.States.{DeviceState, Commanded, StoppedAt, Ordered}

-- ---- an order that is done uses up no fault, and the power stays

-- what a done order leaves of what waits
record Waits (old new : World) : Type 0 where
  powered : new.powered ≡ old.powered
  pending : new.pending ≡ old.pending

abbrev StaysOn : World → Outcome → Type 0
StaysOn w o = o.reply ≡ Ok tt → (o.world.powered ≡ true) × (o.world.pending ≡ w.pending)

off_failed : (d : Done) → (broken_off d).reply ≡ Ok tt → ⊥
off_failed d ok = by_reply d.reply ok
  where
    by_reply : (r : Reply) → (broken_off (record { reply = r; truth = d.truth })).reply ≡ Ok tt → ⊥
    by_reply (Ok unit) h = cc
    by_reply (Err error) h = cc

either_failed : (b : Bool) (x y : Done) → (x.reply ≡ Ok tt → ⊥) → (y.reply ≡ Ok tt → ⊥) → (if b then x else y).reply ≡ Ok tt → ⊥
either_failed true x y h k = h
either_failed false x y h k = k

fault_failed : (t : Truth) (order : Order) (fault : FaultSpec) → (faulted t order fault).reply ≡ Ok tt → ⊥
unfolding faulted
fault_failed t (WriteAt z at bytes) fault =
    let n = min (unwrap_or fault.keep 0) (length bytes / 4096) in
    let d = done t (WriteAt z at (take (4096 * n) bytes)) in
    either_failed (n == 0) (record { reply = Err Fault; truth = t }) (broken_off d) (λ h. cc) (off_failed d)
fault_failed t FlushAll fault = λ h. cc
fault_failed t (ReadAt z at n) fault = λ h. cc
fault_failed t (Manage z op) fault = λ h. cc
fault_failed t (ReportFrom first n) fault = λ h. cc

struck_stays : (w : World) (rest : List FaultSpec) (armed : Option Armed) (order : Order) (o : Option FaultSpec) → StaysOn w (struck w.truth w.pending rest armed order o)
struck_stays w rest armed order None = λ ok. (refl, refl)
struck_stays w rest armed order (Some fault) = λ ok. absurd (fault_failed w.truth order fault ok)

unarmed_stays : (w : World) (order : Order) (armed : Option Armed) → StaysOn w (unarmed w order armed)
unarmed_stays w order armed = struck_stays w _ armed order (met (command_of order) (zones_of order) w.pending)

either_stays : (b : Bool) (w : World) (x y : Outcome) → x.reply ≡ Err PowerLost → StaysOn w y → StaysOn w (if b then x else y)
either_stays true w x y lost h = λ ok. absurd (cc)
either_stays false w x y lost h = h

armed_stays : (w : World) (order : Order) (o : Option Armed) → StaysOn w (issue_armed w order o)
armed_stays w order None = unarmed_stays w order None
armed_stays w order (Some armed) =
    either_stays (meets (command_of order) (zones_of order) armed.command armed.zone.0) w (powered_off w.truth w.pending armed order) (unarmed w order (Some armed)) refl (unarmed_stays w order (Some armed))

powered_stays : (b : Bool) (w : World) (x y : Outcome) → w.powered ≡ b → y.reply ≡ Err PowerLost → StaysOn w x → (if b then x else y).reply ≡ Ok tt → Waits w (if b then x else y).world
powered_stays true w x y is lost h ok = record { powered = (h ok).0 ∙ sym is; pending = (h ok).1 }
powered_stays false w x y is lost h ok = absurd (cc)

done_waits : (w : World) (order : Order) → (issue w order).reply ≡ Ok tt → Waits w (issue w order).world
unfolding issue
done_waits w order ok = powered_stays w.powered w (issue_armed w order w.armed) (record { reply = Err PowerLost; world = w }) refl refl (armed_stays w order w.armed) ok

both_done : (r : Reply) (a b : Outcome) → a.reply ≡ r → (first_failure r a b).reply ≡ Ok tt → (a.reply ≡ Ok tt) × (b.reply ≡ Ok tt)
both_done (Ok unit) a b h ok = (h, ok)
both_done (Err error) a b h ok = absurd (cc)

all_wait : (w : World) (orders : List Order) → (issue_all w orders).reply ≡ Ok tt → Waits w (issue_all w orders).world
all_wait w [] ok = record { powered = refl; pending = refl }
all_wait w (order ∷ orders) ok =
    let each = both_done (issue w order).reply (issue w order) (issue_all (issue w order).world orders) refl ok in
    let first = done_waits w order each.0 in
    let others = all_wait (issue w order).world orders each.1 in
    subst (λ (v : World). Waits w v) (sym (ap (λ (o : Outcome). o.world) (done_goes_on w order orders each.0)))
    (let both : Waits w (issue_all (issue w order).world orders).world = record { powered = others.powered ∙ first.powered; pending = others.pending ∙ first.pending } in both)

waited : (orders : List Order) (old new : World) → ObeysAll orders (Ok tt) old new → Waits old new
waited orders old new h = subst (λ (v : World). Waits old v) (sym (h.world refl)) (all_wait old orders (sym (h.reply refl)))

-- commands that are all done leave the power as it was
pub done_powered : (orders : List Order) (s t : DeviceState) → Ordered orders (Ok tt) s t → t.world.powered ≡ s.world.powered
done_powered orders s t h = (waited orders s.world t.world h.obeys).powered

-- orders that fail, but not for want of power, had it
lost_all : (w : World) (orders : List Order) (error : DevError) → w.powered ≡ false → (issue_all w orders).reply ≡ Err error → error ≡ PowerLost
lost_all w [] error off is = absurd (cc)
lost_all w (order ∷ orders) error off is =
    let lost : (issue_all w (order ∷ orders)).reply ≡ Err PowerLost = ap (λ (o : Outcome). o.reply) (no_power_in_all w order orders off) in
    cc (lost, is)

pub failed_powered : (orders : List Order) (error : DevError) (s t : DeviceState) → Ordered orders (Err error) s t → is_answered (Err error) ≡ true → (error ≡ PowerLost → ⊥) → s.world.powered ≡ true
failed_powered orders error s t h answered other = elim s.world.powered as (λ (b : Bool). s.world.powered ≡ b → s.world.powered ≡ true) [
  | true ↦ λ on. on
  | false ↦ λ off. absurd (other (lost_all s.world orders error off (sym (h.obeys.reply answered))))
] refl

-- ---- joining

pub ordered_none : (s : DeviceState) → s.spoilt ≡ false → Ordered [] (Ok tt) s s
ordered_none s unspoilt = record {
  obeys = obeys_none s.world;
  caused = record {
    spoilt = unspoilt;
    cause = record { later = omega arith; fault = λ is. absurd (cc); kept = λ ok. refl; no_fewer = omega arith; broken = λ is. absurd (cc); whole = λ answered. refl };
    memory = λ none is. cc;
    same = refl;
    keeps = refl;
    powered = λ is. absurd (cc);
    still_powered = λ is. absurd (cc);
    no_fault = λ answered pending. refl;
  };
  stopped = λ error is. absurd (cc);
}

pub ordered_one : (order : Order) (reply : Reply) (s t : DeviceState) → Commanded order reply s t → Ordered (order ∷ []) reply s t
ordered_one order reply s t h = record {
  obeys = obeys_one order reply s.world t.world h.obeys;
  caused = h.caused;
  stopped = λ error is. record {
    before = [];
    order = order;
    after = [];
    parts = refl;
    middle = s;
    done = refl;
    reached = refl;
    faults = refl;
    breaks = refl;
    takes_memory = refl;
    keeps_conditions = refl;
    last = h;
  };
}

-- the counts of what is done stand still
after_still : (reply : Reply) (faults0 faults1 faults breaks0 breaks1 breaks : ℕ) → faults1 ≡ faults0 → breaks1 ≡ breaks0 → DeviceCause reply faults1 faults breaks1 breaks → DeviceCause reply faults0 faults breaks0 breaks
after_still reply faults0 faults1 faults breaks0 breaks1 breaks f b h =
    subst (λ (n : ℕ). DeviceCause reply n faults breaks0 breaks) f (subst (λ (n : ℕ). DeviceCause reply faults1 faults n breaks) b h)

-- commands that stop after others that are done
stopped_after : (first second : List Order) (reply : Reply) (s m t : DeviceState) → Ordered first (Ok tt) s m → StoppedAt second reply m t → StoppedAt (first ++ second) reply s t
stopped_after first second reply s m t h at =
    let same : geometry_of at.middle.world ≡ geometry_of m.world = ap geometry_of at.reached ∙ issue_all-geometry m.world at.before in
    let goes = obeys_append first at.before (Ok tt) s.world m.world at.middle.world h.obeys (record { reply = λ yes. sym at.done; world = λ yes. at.reached; geometry = same }) in
    record {
      before = first ++ at.before;
      order = at.order;
      after = at.after;
      parts = ap (λ (rest : List Order). first ++ rest) at.parts ∙ sym (append_assoc first at.before (at.order ∷ at.after));
      middle = at.middle;
      done = sym (goes.reply refl);
      reached = goes.world refl;
      faults = at.faults ∙ h.caused.cause.kept refl;
      breaks = at.breaks ∙ h.caused.cause.whole refl;
      takes_memory = at.takes_memory ∙ h.caused.same;
      keeps_conditions = at.keeps_conditions ∙ h.caused.keeps;
      last = at.last;
    }

-- commands that stop before others
stopped_before : (first second : List Order) (reply : Reply) (s t : DeviceState) → StoppedAt first reply s t → StoppedAt (first ++ second) reply s t
stopped_before first second reply s t at = record {
  before = at.before;
  order = at.order;
  after = at.after ++ second;
  parts = ap (λ (all : List Order). all ++ second) at.parts ∙ append_assoc at.before (at.order ∷ at.after) second;
  middle = at.middle;
  done = at.done;
  reached = at.reached;
  faults = at.faults;
  breaks = at.breaks;
  takes_memory = at.takes_memory;
  keeps_conditions = at.keeps_conditions;
  last = at.last;
}

pub ordered_append : (first second : List Order) (reply : Reply) (s m t : DeviceState) → Ordered first (Ok tt) s m → Ordered second reply m t → Ordered (first ++ second) reply s t
ordered_append first second reply s m t h k =
    let w = waited first s.world m.world h.obeys in
    record {
      obeys = obeys_append first second reply s.world m.world t.world h.obeys k.obeys;
      caused = record {
        spoilt = k.caused.spoilt;
        cause = after_still reply s.faults m.faults t.faults s.breaks m.breaks t.breaks (h.caused.cause.kept refl) (h.caused.cause.whole refl) k.caused.cause;
        memory = λ none. k.caused.memory (h.caused.same ∙ none);
        same = k.caused.same ∙ h.caused.same;
        keeps = k.caused.keeps ∙ h.caused.keeps;
        powered = λ is. sym w.powered ∙ k.caused.powered is;
        still_powered = k.caused.still_powered;
        no_fault = λ answered pending. k.caused.no_fault answered (pending ∙ sym w.pending) ∙ h.caused.cause.kept refl;
      };
      stopped = λ error is. stopped_after first second reply s m t h (k.stopped error is);
    }

pub ordered_failure : (first second : List Order) (error : DevError) (s t : DeviceState) → Ordered first (Err error) s t → Ordered (first ++ second) (Err error) s t
ordered_failure first second error s t h = record {
  obeys = obeys_failure first second error s.world t.world h.obeys;
  caused = h.caused;
  stopped = λ other is. stopped_before first second (Err error) s t (h.stopped other is);
}

-- ---- a loop over a range

pub ordered_start : (order : ℕ → Order) (from to : ℕ) (s : DeviceState) → to ≤ from → s.spoilt ≡ false → Ordered (each_zone order from to) (Ok tt) s s
ordered_start order from to s none unspoilt = rw (each_none order from to none) (ordered_none s unspoilt)

one_more : (order : ℕ → Order) (from i : ℕ) (reply : Reply) (s m t : DeviceState) → from ≤ i → Ordered (each_zone order from i) (Ok tt) s m → Commanded (order i) reply m t
    → Ordered (each_zone order from (i + 1)) reply s t
one_more order from i reply s m t le h k =
    rw (each_more order from i le) (ordered_append (each_zone order from i) (order i ∷ []) reply s m t h (ordered_one (order i) reply m t k))

pub ordered_more : (order : ℕ → Order) (from i : ℕ) (s m t : DeviceState) → Ordered (each_zone order from i) (Ok tt) s m → Commanded (order i) (Ok tt) m t → from ≤ i → Ordered (each_zone order from (i + 1)) (Ok tt) s t
ordered_more order from i s m t h k le = one_more order from i (Ok tt) s m t le h k

-- the first that fails ends all
pub ordered_stopped : (order : ℕ → Order) (from i to : ℕ) (error : DevError) (s m t : DeviceState) → Ordered (each_zone order from i) (Ok tt) s m → Commanded (order i) (Err error) m t
    → from ≤ i → i < to → Ordered (each_zone order from to) (Err error) s t
ordered_stopped order from i to error s m t h k le lt =
    rw (each_in_two order from (i + 1) to (omega arith) (omega arith))
    (ordered_failure (each_zone order from (i + 1)) (each_zone order (i + 1) to) error s t (one_more order from i (Err error) s m t le h k))

-- ---- a list of few orders

-- one order that fails
pub ordered_failed : (order : Order) (orders : List Order) (error : DevError) (s t : DeviceState) → Commanded order (Err error) s t → Ordered (order ∷ orders) (Err error) s t
ordered_failed order orders error s t h = ordered_failure (order ∷ []) orders error s t (ordered_one order (Err error) s t h)

-- one order that is done, and others
pub ordered_then : (order : Order) (orders : List Order) (reply : Reply) (s m t : DeviceState) → Commanded order (Ok tt) s m → Ordered orders reply m t → Ordered (order ∷ orders) reply s t
ordered_then order orders reply s m t h k = ordered_append (order ∷ []) orders reply s m t (ordered_one order (Ok tt) s m h) k
