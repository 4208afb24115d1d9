-- A device with faults and a loss that wait, over one that has none.
use Rattle.std.proofs.Common.{◌≡◌, ℕ, ◌+◌, Bool, true, false, List, length, Option, Some, None, Ok, Err, refl, sym, ap, ◌∙◌, arith}
use Rattle.std.specs.Prelude.{not, ◌&&◌, if◌then◌else◌, is_err, IsOk, IsErr, IsErrOf}
use Rattle.std.proofs.lemmas.Bool.{false≢true}
use Rattle.zn_base.specs.Causes.{Rose}
use Rattle.zn_truth.specs.declared.Armed.{Armed}
use Rattle.zn_truth.specs.declared.DevError.TheVariants.{Fault, PowerLost, Broken, Memory}
use Rattle.zn_truth.specs.declared.FaultSpec.{FaultSpec}
use Rattle.zn_truth.specs.declared.ZoneOp.{ZoneOp}
use Rattle.zn_truth.specs.Truth.{Truth}
use Rattle.zn_truth.specs.Orders.{Order, ReadAt, Manage, FlushAll, ReportFrom, Reply, Done}
use Rattle.zn_truth.specs.Power.{lost, during}
use Rattle.zn_truth.specs.World.{World, Outcome, geometry_of, issue, issue_armed, unarmed, powered_off, calm, command_of, zones_of, met, unmet, struck, outcome, faulted}
use Rattle.zn_truth.specs.Obeying.{is_answered}
use Rattle.zn_truth.proofs.Issuing.{calm_done}
use Rattle.zn_device.specs.Causes.{is_refused}
use Rattle.zn_device.specs.States.{DeviceState, Commanded}
use Rattle.zn_device.specs.Harms.{Harmed}
use Rattle.zn_fault.specs.FaultState.{faulty_state}
use Rattle.zn_fault.specs.Losses.{as_loss, is_met, lost_inside, Meets}
use Rattle.zn_fault.specs.Strikes.{Spares, Strikes, Struck}

-- the world of the device, by its parts
abbrev around : Truth → Bool → List FaultSpec → Option Armed → World
around t powered pending armed = record { truth = t; powered = powered; pending = pending; armed = armed }

-- ---- a command that meets nothing

-- without power a command answers so, and changes nothing
off_issued : (t : Truth) (pending : List FaultSpec) (armed : Option Armed) (order : Order) (powered : Bool) → powered ≡ false
    → issue (around t powered pending armed) order ≡ record { reply = Err PowerLost; world = around t powered pending armed }
unfolding issue
off_issued t pending armed order true off = absurd (false≢true (sym off))
off_issued t pending armed order false off = refl

pub off_commanded : (order : Order) (s : DeviceState) (powered : Bool) (pending : List FaultSpec) (armed : Option Armed) (faults : ℕ) → powered ≡ false → s.spoilt ≡ false
    → Commanded order (Err PowerLost) (faulty_state s powered pending armed faults) (faulty_state s powered pending armed faults)
off_commanded order s powered pending armed faults off unspoilt =
    let same : _ = off_issued s.world.truth pending armed order powered off in
    record {
      obeys = record {
        reply = λ answered. sym (ap (λ (o : Outcome). o.reply) same);
        world = λ answered. sym (ap (λ (o : Outcome). o.world) same);
        geometry = refl;
      };
      caused = record {
        spoilt = unspoilt;
        cause = record {
          later = omega arith;
          fault = λ is. absurd (cc);
          kept = λ ok. absurd (false≢true ok);
          no_fewer = omega arith;
          broken = λ is. absurd (cc);
          whole = λ answered. refl;
        };
        memory = λ none is. cc;
        same = refl;
        keeps = refl;
        powered = λ is. absurd (cc);
        still_powered = λ is. absurd (cc);
        no_fault = λ answered pending. refl;
      };
      named = λ keeps refused is. cc;
    }

-- with power, a command that no loss waits for
spared : (t : Truth) (pending : List FaultSpec) (armed : Option Armed) (order : Order) (powered : Bool) → powered ≡ true → is_met (command_of order) (zones_of order) armed ≡ false
    → issue (around t powered pending armed) order ≡ struck t pending (unmet (command_of order) (zones_of order) pending) armed order (met (command_of order) (zones_of order) pending)
unfolding issue
spared t pending armed order powered on spares =
    ap (λ b. if b then issue_armed (around t powered pending armed) order armed else record { reply = Err PowerLost; world = around t powered pending armed }) on ∙ by_armed armed spares
  where
    by_armed : (waits : Option Armed) → is_met (command_of order) (zones_of order) waits ≡ false
        → issue_armed (around t powered pending armed) order waits ≡ struck t pending (unmet (command_of order) (zones_of order) pending) waits order (met (command_of order) (zones_of order) pending)
    by_armed None spares = refl
    by_armed (Some loss) spares = ap (λ b. if b then powered_off t pending loss order else unarmed (around t powered pending armed) order (Some loss)) spares

-- over a calm device, a command that meets no fault either does what it does there
passed : (w : World) (order : Order) (powered : Bool) (pending : List FaultSpec) (armed : Option Armed) → w ≡ calm w.truth → powered ≡ true → is_met (command_of order) (zones_of order) armed ≡ false
    → None ≡ met (command_of order) (zones_of order) pending
    → issue (around w.truth powered pending armed) order ≡ record { reply = (issue w order).reply; world = around (issue w order).world.truth true pending armed }
passed w order powered pending armed is_calm on spares no_fault =
    spared w.truth pending armed order powered on spares
    ∙ ap (struck w.truth pending (unmet (command_of order) (zones_of order) pending) armed order) (sym no_fault)
    ∙ sym (ap (λ (x : Outcome). let o : Outcome = record { reply = x.reply; world = around x.world.truth true pending armed } in o)
    (ap (λ v. issue v order) is_calm ∙ calm_done w.truth order))

-- the device within has no faults, so it doesn't answer one
no_own_fault : (before now : ℕ) → before ≡ 0 → now ≡ 0 → Rose before now → ⊥
no_own_fault before now none none_now rose = omega arith

-- a command that meets nothing is done by the device within
pub passed_commanded : (order : Order) (result : Reply) (old new : DeviceState) (powered : Bool) (pending rest : List FaultSpec) (armed : Option Armed) (faults count : ℕ)
    → Commanded order result old new → Spares (command_of order) (zones_of order) pending rest faults count → is_met (command_of order) (zones_of order) armed ≡ false
    → powered ≡ true → old.world ≡ calm old.world.truth → old.faults ≡ 0 → new.faults ≡ 0
    → Commanded order result (faulty_state old powered pending armed faults) (faulty_state new powered rest armed count)
unfolding geometry_of
passed_commanded order result old new powered pending rest armed faults count h spares unmet on is_calm faultless still =
    let same : _ = passed old.world order powered pending armed is_calm on unmet spares.met in
    record {
      obeys = record {
        reply = λ answered. h.obeys.reply answered ∙ sym (ap (λ (o : Outcome). o.reply) same);
        world = λ answered.
            ap (λ (b : Bool). around new.world.truth b rest armed) on
            ∙ ap (λ (l : List FaultSpec). around new.world.truth true l armed) spares.rest
            ∙ ap (λ (v : World). around v.truth true pending armed) (h.obeys.world answered)
            ∙ sym (ap (λ (o : Outcome). o.world) same);
        geometry = h.obeys.geometry;
      };
      caused = record {
        spoilt = h.caused.spoilt;
        cause = record {
          later = omega (arith, spares.count);
          fault = λ is. absurd (no_own_fault old.faults new.faults faultless still (h.caused.cause.fault is));
          kept = λ ok. spares.count;
          no_fewer = h.caused.cause.no_fewer;
          broken = h.caused.cause.broken;
          whole = h.caused.cause.whole;
        };
        memory = h.caused.memory;
        same = h.caused.same;
        keeps = h.caused.keeps;
        powered = λ is. on;
        still_powered = λ is. on;
        no_fault = λ answered same_pending. spares.count;
      };
      named = λ keeps refused. h.named keeps (sym (ap (λ (o : Outcome). is_refused o.reply) same) ∙ refused);
    }

-- ---- a command that a fault meets

not_both : (r : Reply) → IsErr r → IsOk r → ⊥
not_both (Ok unit) failed ok = false≢true failed
not_both (Err error) failed ok = false≢true ok

fewer_differ : (new old : List FaultSpec) → length new + 1 ≡ length old → new ≡ old → ⊥
fewer_differ new old fewer same = omega (arith, ap length same)

-- a command that meets a fault, and no loss, is done as the fault lets it
fails : (t : Truth) (order : Order) (powered : Bool) (pending : List FaultSpec) (armed : Option Armed) (fault : FaultSpec) → powered ≡ true → is_met (command_of order) (zones_of order) armed ≡ false
    → Some fault ≡ met (command_of order) (zones_of order) pending
    → issue (around t powered pending armed) order ≡ outcome (faulted t order fault) (unmet (command_of order) (zones_of order) pending) armed
fails t order powered pending armed fault on spares is_fault =
    spared t pending armed order powered on spares ∙ ap (struck t pending (unmet (command_of order) (zones_of order) pending) armed order) (sym is_fault)

-- the fault is used up and counted, and the device within does what the fault lets it
pub struck_commanded : (order : Order) (fault : FaultSpec) (result : Reply) (old new : DeviceState) (powered : Bool) (pending rest : List FaultSpec) (armed : Option Armed) (faults count : ℕ)
    → Struck order fault result old new → Strikes (command_of order) (zones_of order) fault pending rest faults count → is_met (command_of order) (zones_of order) armed ≡ false → powered ≡ true
    → Commanded order result (faulty_state old powered pending armed faults) (faulty_state new powered rest armed count)
unfolding geometry_of
struck_commanded order fault result old new powered pending rest armed faults count h strikes unmet on =
    let same : _ = fails old.world.truth order powered pending armed fault on unmet strikes.met in
    record {
      obeys = record {
        reply = λ answered. h.reply answered ∙ sym (ap (λ (o : Outcome). o.reply) same);
        world = λ answered.
            ap (λ (b : Bool). around new.world.truth b rest armed) on
            ∙ ap (λ (t : Truth). around t true rest armed) (h.truth answered)
            ∙ ap (λ (l : List FaultSpec). around (faulted old.world.truth order fault).truth true l armed) strikes.rest
            ∙ sym (ap (λ (o : Outcome). o.world) same);
        geometry = h.geometry;
      };
      caused = record {
        spoilt = h.spoilt;
        cause = record {
          later = strikes.later;
          fault = λ is. omega (arith, strikes.count);
          kept = λ ok. absurd (not_both result h.failed ok);
          no_fewer = h.no_fewer;
          broken = h.broken;
          whole = h.whole;
        };
        memory = h.memory;
        same = h.same;
        keeps = h.keeps;
        powered = λ is. on;
        still_powered = λ is. on;
        no_fault = λ answered unchanged. absurd (fewer_differ rest pending strikes.fewer unchanged);
      };
      named = λ keeps refused. h.named keeps (sym (ap (λ (o : Outcome). is_refused o.reply) same) ∙ refused);
    }

-- ---- a command inside which the power goes

-- the loss that waits for the command is used up
gone : (t : Truth) (order : Order) (powered : Bool) (pending : List FaultSpec) (waits : Option Armed) (armed : Armed) → powered ≡ true → Meets (command_of order) (zones_of order) waits armed
    → issue (around t powered pending waits) order ≡ powered_off t pending armed order
unfolding issue
gone t order powered pending waits armed on meeting =
    ap (λ b. issue (around t b pending waits) order) on
    ∙ ap (λ (o : Option Armed). issue (around t true pending o) order) meeting.waiting
    ∙ ap (λ b. if b then powered_off t pending armed order else unarmed (around t true pending (Some armed)) order (Some armed)) meeting.met

-- a loss that is answered by none but a break or want of memory is told as a loss
abbrev IsLossTold : Reply → Type 0
IsLossTold r = (is_answered (as_loss r) ≡ is_answered r) × (IsErrOf (as_loss r) Broken → IsErrOf r Broken) × (IsErrOf (as_loss r) Memory → IsErrOf r Memory) × (IsErrOf (as_loss r) Fault → IsErrOf r Fault)
    × (IsErrOf (as_loss r) Broken → is_err r ≡ true) × (is_answered r ≡ true → r ≡ Ok tt → (as_loss r ≡ Err PowerLost) × (is_err r ≡ false))

loss_told : (r : Reply) → IsLossTold r
loss_told (Ok unit) = (refl, λ is. absurd (cc), λ is. absurd (cc), λ is. absurd (cc), λ is. absurd (cc), λ answered ok. (refl, refl))
loss_told (Err error) = (refl, λ is. is, λ is. is, λ is. is, λ is. refl, λ answered ok. absurd (cc))

loss_not_ok : (r : Reply) → IsOk (as_loss r) → ⊥
loss_not_ok (Ok unit) ok = false≢true ok
loss_not_ok (Err error) ok = false≢true ok

-- the power goes inside the command, unless the device within fails, and no fault is used up
pub lost_commanded : (order : Order) (armed : Armed) (r : Reply) (old new : DeviceState) (powered : Bool) (pending : List FaultSpec) (waits : Option Armed) (faults : ℕ)
    → Harmed (lost_inside old.world.truth order armed) r old new → Meets (command_of order) (zones_of order) waits armed → powered ≡ true
    → Commanded order (as_loss r) (faulty_state old powered pending waits faults) (faulty_state new (powered && is_err r) pending None faults)
unfolding geometry_of
lost_commanded order armed r old new powered pending waits faults h meeting on =
    let same : _ = gone old.world.truth order powered pending waits armed on meeting in
    let told : IsLossTold r = loss_told r in
    record {
      obeys = record {
        reply = λ answered. (told.5 (sym told.0 ∙ answered) (h.done (sym told.0 ∙ answered))).0 ∙ sym (ap (λ (o : Outcome). o.reply) same);
        world = λ answered.
            ap (λ (b : Bool). around new.world.truth b pending None) (ap (λ b. b && is_err r) on ∙ (told.5 (sym told.0 ∙ answered) (h.done (sym told.0 ∙ answered))).1)
            ∙ ap (λ (v : World). around v.truth false pending None) (h.world (sym told.0 ∙ answered))
            ∙ sym (ap (λ (o : Outcome). o.world) same);
        geometry = h.geometry;
      };
      caused = record {
        spoilt = h.caused.spoilt ∙ ap not (sym told.0);
        cause = record {
          later = omega arith;
          fault = λ is. absurd (no_fault_told is);
          kept = λ ok. absurd (loss_not_ok r ok);
          no_fewer = h.caused.cause.no_fewer;
          broken = λ is. h.caused.cause.broken (told.1 is);
          whole = λ answered. h.caused.cause.whole (sym told.0 ∙ answered);
        };
        memory = λ none is. h.caused.memory none (told.2 is);
        same = h.caused.same;
        keeps = h.caused.keeps;
        powered = λ is. on;
        still_powered = λ is. ap (λ b. b && is_err r) on ∙ told.4 is;
        no_fault = λ answered unchanged. refl;
      };
      named = λ keeps refused. absurd (false≢true (sym (ap (λ (o : Outcome). is_refused o.reply) same) ∙ refused));
    }
  where
    no_fault_told : IsErrOf (as_loss r) Fault → ⊥
    no_fault_told is = let e : IsErrOf r Fault = (loss_told r).3 is in let told : r ≡ Ok tt = h.done (ap is_answered e) in cc

-- before a read, a flush and a report
pub read_lost : (z at n : ℕ) (armed : Armed) (r : Reply) (old new : DeviceState) → Harmed (lost old.world.truth armed.loss) r old new → Harmed (lost_inside old.world.truth (ReadAt z at n) armed) r old new
unfolding during
read_lost z at n armed r old new h = h

pub flush_lost : (armed : Armed) (r : Reply) (old new : DeviceState) → Harmed (lost old.world.truth armed.loss) r old new → Harmed (lost_inside old.world.truth FlushAll armed) r old new
unfolding during
flush_lost armed r old new h = h

pub report_lost : (first n : ℕ) (armed : Armed) (r : Reply) (old new : DeviceState) → Harmed (lost old.world.truth armed.loss) r old new → Harmed (lost_inside old.world.truth (ReportFrom first n) armed) r old new
unfolding during
report_lost first n armed r old new h = h

-- ---- what the device within does where a fault meets the command

-- a command of which nothing is done
pub nothing_struck : (order : Order) (fault : FaultSpec) (s : DeviceState) → faulted s.world.truth order fault ≡ record { reply = Err Fault; truth = s.world.truth } → s.spoilt ≡ false
    → Struck order fault (Err Fault) s s
nothing_struck order fault s is unspoilt = record {
  reply = λ answered. sym (ap (λ (d : Done). d.reply) is);
  truth = λ answered. sym (ap (λ (d : Done). d.truth) is);
  failed = refl;
  spoilt = unspoilt;
  no_fewer = omega arith;
  broken = λ broken. absurd (cc);
  whole = λ answered. refl;
  memory = λ none wanting. cc;
  same = refl;
  keeps = refl;
  geometry = refl;
  named = λ keeps refused broken. cc;
}

pub read_struck : (z at n : ℕ) (fault : FaultSpec) (s : DeviceState) → s.spoilt ≡ false → Struck (ReadAt z at n) fault (Err Fault) s s
unfolding faulted
read_struck z at n fault s unspoilt = nothing_struck (ReadAt z at n) fault s refl unspoilt

pub manage_struck : (z : ℕ) (op : ZoneOp) (fault : FaultSpec) (s : DeviceState) → s.spoilt ≡ false → Struck (Manage z op) fault (Err Fault) s s
unfolding faulted
manage_struck z op fault s unspoilt = nothing_struck (Manage z op) fault s refl unspoilt

pub report_struck : (first n : ℕ) (fault : FaultSpec) (s : DeviceState) → s.spoilt ≡ false → Struck (ReportFrom first n) fault (Err Fault) s s
unfolding faulted
report_struck first n fault s unspoilt = nothing_struck (ReportFrom first n) fault s refl unspoilt
