-- Commands to a device without faults of its own, inside which the power goes.
use Rattle.std.proofs.Common.{◌≡◌, ℕ, ◌+◌, ◌*◌, ◌/◌, ◌<◌, ◌≤◌, min, Bool, true, false, List, [], ◌++◌, length, take, replicate, Option, Some, None, Ok, Err, refl, sym, ap, ◌∙◌, subst, ⊎_elim, arith}
use Rattle.std.specs.Prelude.{if◌then◌else◌, not, IsErrOf}
use Rattle.std.proofs.lemmas.Bool.{false≢true, cases_lt}
use Rattle.std.proofs.lemmas.List.{length-replicate, replicate-append-replicate, take_all}
use Rattle.zn_truth.specs.declared.DevError.{DevError}
use Rattle.zn_truth.specs.declared.DevError.TheVariants.{ReadOnly, Offline, Unaligned, TooManyActive, TooManyOpen, BeyondWp, Fault, PowerLost, Broken, Memory}
use Rattle.zn_truth.specs.declared.Kind.{Kind}
use Rattle.zn_truth.specs.declared.Kind.TheVariants.{Conventional, Sequential}
use Rattle.zn_truth.specs.declared.LossSpec.{LossSpec}
use Rattle.zn_truth.specs.declared.Armed.{Armed}
use Rattle.zn_truth.specs.declared.ZoneInfo.{ZoneInfo}
use Rattle.zn_truth.specs.declared.ZoneOp.{ZoneOp}
use Rattle.zn_truth.specs.declared.ZoneOp.TheVariants.{Open, Close, Reset, Finish}
use Rattle.zn_truth.specs.Truth.{Truth, zone_at, with_zone, room, info_at, kind_at, is_sequential}
use Rattle.zn_truth.specs.Orders.{Order, WriteAt, Manage, Reply, Done, refusal, done, done_unless}
use Rattle.zn_truth.specs.Power.{settled, stored, lost, cut_write, write_during, during}
use Rattle.zn_truth.specs.World.{World, Outcome, geometry_of, issue, calm, outcome}
use Rattle.zn_truth.specs.Obeying.{is_answered, IsWhole, Fits, IsZoneToManage}
use Rattle.zn_truth.proofs.Issuing.{kind_is, kinds-length}
use Rattle.zn_device.specs.Causes.{is_refused}
use Rattle.zn_device.specs.Harms.{Harmed}
use Rattle.zn_device.specs.States.{DeviceState, Commanded}
use Rattle.zn_fault.specs.Losses.{unrefused, filled_with, is_carried_out, lost_inside}
use Rattle.zn_fault.proofs.Harming.{then_caused, then_harmed, truth_between, unharmed}
use Rattle.zn_fault.proofs.Joining.{writes_join}
use Rattle.zn_fault.proofs.Striking.{calm_outcome}

-- ---- a command, whether it is refused or not

-- a break, and want of memory, are told as they are, and all else is a success
abbrev IsToldSo : Reply → Type 0
IsToldSo r = (is_answered (unrefused r) ≡ is_answered r) × (IsErrOf (unrefused r) Broken → IsErrOf r Broken) × (IsErrOf (unrefused r) Memory → IsErrOf r Memory)
    × (IsErrOf (unrefused r) Fault → ⊥) × (is_answered r ≡ true → unrefused r ≡ Ok tt)

told_so : (r : Reply) → IsToldSo r
told_so (Ok unit) = (refl, λ is. absurd (cc), λ is. absurd (cc), λ is. cc, λ answered. refl)
told_so (Err Broken) = (refl, λ is. refl, λ is. absurd (cc), λ is. cc, λ answered. absurd (false≢true answered))
told_so (Err Memory) = (refl, λ is. absurd (cc), λ is. refl, λ is. cc, λ answered. absurd (false≢true answered))
told_so (Err ReadOnly) = (refl, λ is. absurd (cc), λ is. absurd (cc), λ is. cc, λ answered. refl)
told_so (Err Offline) = (refl, λ is. absurd (cc), λ is. absurd (cc), λ is. cc, λ answered. refl)
told_so (Err Unaligned) = (refl, λ is. absurd (cc), λ is. absurd (cc), λ is. cc, λ answered. refl)
told_so (Err TooManyActive) = (refl, λ is. absurd (cc), λ is. absurd (cc), λ is. cc, λ answered. refl)
told_so (Err TooManyOpen) = (refl, λ is. absurd (cc), λ is. absurd (cc), λ is. cc, λ answered. refl)
told_so (Err BeyondWp) = (refl, λ is. absurd (cc), λ is. absurd (cc), λ is. cc, λ answered. refl)
told_so (Err Fault) = (refl, λ is. absurd (cc), λ is. absurd (cc), λ is. cc, λ answered. refl)
told_so (Err PowerLost) = (refl, λ is. absurd (cc), λ is. absurd (cc), λ is. cc, λ answered. refl)

-- what the device then holds, if it neither breaks nor lacks memory
pub done_harmed : (order : Order) (r : Reply) (old new : DeviceState) → Commanded order r old new → old.world ≡ calm old.world.truth → old.faults ≡ 0 → new.faults ≡ 0
    → Harmed (done old.world.truth order).truth (unrefused r) old new
done_harmed order r old new h is_calm faultless still =
    let told : IsToldSo r = told_so r in
    let kept : new.faults ≡ old.faults = still ∙ sym faultless in
    record {
      done = λ answered. told.4 (sym told.0 ∙ answered);
      world = λ answered.
          h.obeys.world (sym told.0 ∙ answered) ∙ ap (λ (o : Outcome). o.world) (calm_outcome old.world order is_calm)
          ∙ sym (ap (λ (w : World). let v : World = record w { truth = (done old.world.truth order).truth } in v) is_calm);
      geometry = h.obeys.geometry;
      caused = record {
        spoilt = h.caused.spoilt ∙ ap not (sym told.0);
        cause = record {
          later = h.caused.cause.later;
          fault = λ is. absurd (told.3 is);
          kept = λ ok. kept;
          no_fewer = h.caused.cause.no_fewer;
          broken = λ is. h.caused.cause.broken (told.1 is);
          whole = λ answered. h.caused.cause.whole (sym told.0 ∙ answered);
        };
        memory = λ none is. h.caused.memory none (told.2 is);
        same = h.caused.same;
        keeps = h.caused.keeps;
        powered = λ is. h.caused.powered (told.1 is);
        still_powered = λ is. h.caused.still_powered (told.1 is);
        no_fault = λ answered pending. kept;
      };
    }

-- ---- writes of which the bytes are one

pub length-filled_with : (n byte : ℕ) → length (filled_with n byte) ≡ 4096 * n
unfolding filled_with
length-filled_with n byte = length-replicate (4096 * n) byte

pub filled_more : (n byte : ℕ) → filled_with n byte ++ filled_with 1 byte ≡ filled_with (n + 1) byte
unfolding filled_with
filled_more n byte = replicate-append-replicate (4096 * n) (4096 * 1) byte ∙ ap (λ k. replicate k byte) (omega arith)

pub filled_whole : (n byte : ℕ) → 1 ≤ n → IsWhole (filled_with n byte)
filled_whole n byte some = let long = length-filled_with n byte in record { whole = omega (arith, long); some = omega (arith, long) }

pub filled_blocks : (n byte : ℕ) → length (filled_with n byte) / 4096 ≡ n
filled_blocks n byte = omega (arith, length-filled_with n byte)

-- the bytes that a write with a fill stores
pub stored_filled : (byte : ℕ) (bytes : List ℕ) (n : ℕ) → n ≡ length bytes / 4096 → IsWhole bytes → filled_with n byte ≡ stored (Some byte) bytes
unfolding filled_with
stored_filled byte bytes n is whole = ap (λ k. replicate k byte) (omega (arith, whole.whole))

-- ---- one write behind another

pub joined_commanded : (z at : ℕ) (first second : List ℕ) (r : Reply) (old middle new : DeviceState)
    → Commanded (WriteAt z at first) (Ok tt) old middle → Commanded (WriteAt z (at + length first / 4096) second) r middle new → old.world ≡ calm old.world.truth
    → IsZoneToManage (geometry_of old.world) z → IsWhole first → IsWhole second → Fits (geometry_of old.world) z at (length first / 4096 + length second / 4096)
    → Commanded (WriteAt z at (first ++ second)) r old new
unfolding geometry_of
joined_commanded z at first second r old middle new one two is_calm zone whole_first whole_second fits =
    let t = old.world.truth in
    let order = WriteAt z (at + length first / 4096) second in
    let u = (done t (WriteAt z at first)).truth in
    let same : issue old.world (WriteAt z at first) ≡ outcome (done t (WriteAt z at first)) [] None = calm_outcome old.world (WriteAt z at first) is_calm in
    let world : middle.world ≡ calm u = one.obeys.world refl ∙ ap (λ (o : Outcome). o.world) same in
    let kind : (zone_at t z).kind ≡ Sequential = sym (kind_is old.world z) ∙ zone.kind in
    let fit : at + (length first / 4096 + length second / 4096) ≤ t.shape.zone_capacity = subst (λ (k : Kind). at + (length first / 4096 + length second / 4096) ≤ room t.shape k) zone.kind fits.room in
    let join : done t (WriteAt z at (first ++ second)) ≡ done u order =
    writes_join t z at first second kind (omega (arith, zone.zone, kinds-length old.world)) whole_first whole_second fit (sym (one.obeys.reply refl ∙ ap (λ (o : Outcome). o.reply) same)) in
    let both : issue old.world (WriteAt z at (first ++ second)) ≡ issue middle.world order =
    calm_outcome old.world (WriteAt z at (first ++ second)) is_calm ∙ ap (λ (d : Done). outcome d [] None) join ∙ sym (calm_outcome (calm u) order refl) ∙ ap (λ (w : World). issue w order) (sym world) in
    record {
      obeys = record {
        reply = λ answered. two.obeys.reply answered ∙ sym (ap (λ (o : Outcome). o.reply) both);
        world = λ answered. two.obeys.world answered ∙ sym (ap (λ (o : Outcome). o.world) both);
        geometry = two.obeys.geometry ∙ one.obeys.geometry;
      };
      caused = then_caused r old middle new one.caused two.caused (ap (λ (w : World). w.powered) world ∙ sym (ap (λ (w : World). w.powered) is_calm)) (ap (λ (w : World). w.pending) world ∙ sym (ap (λ (w : World). w.pending) is_calm));
      named = λ keeps refused. two.named (one.caused.keeps ∙ keeps) (ap (λ (o : Outcome). is_refused o.reply) (sym both) ∙ refused);
    }

-- whether a write is refused doesn't depend on its bytes
reply_same : (t : Truth) (z at : ℕ) (bytes other : List ℕ) → (done t (WriteAt z at bytes)).reply ≡ (done t (WriteAt z at other)).reply
unfolding done
reply_same t z at bytes other = by_refusal (refusal t (WriteAt z at bytes))
  where
    by_refusal : (r : Option DevError) → (done_unless r t (WriteAt z at bytes)).reply ≡ (done_unless r t (WriteAt z at other)).reply
    by_refusal None = refl
    by_refusal (Some error) = refl

-- and of one that is, nothing is done
refused_same : (t : Truth) (z at : ℕ) (bytes other : List ℕ) (e : DevError) → Err e ≡ (done t (WriteAt z at bytes)).reply → (done t (WriteAt z at bytes)).truth ≡ (done t (WriteAt z at other)).truth
unfolding done
refused_same t z at bytes other e is = by_refusal (refusal t (WriteAt z at bytes)) is
  where
    by_refusal : (r : Option DevError) → Err e ≡ (done_unless r t (WriteAt z at bytes)).reply → (done_unless r t (WriteAt z at bytes)).truth ≡ (done_unless r t (WriteAt z at other)).truth
    by_refusal None is = absurd (cc)
    by_refusal (Some error) is = refl

-- so a write that fails may have been one of other bytes
pub failed_write : (z at : ℕ) (bytes other : List ℕ) (e : DevError) (old new : DeviceState) → Commanded (WriteAt z at bytes) (Err e) old new → old.world ≡ calm old.world.truth
    → Commanded (WriteAt z at other) (Err e) old new
failed_write z at bytes other e old new h is_calm =
    let t = old.world.truth in
    let one : issue old.world (WriteAt z at bytes) ≡ outcome (done t (WriteAt z at bytes)) [] None = calm_outcome old.world (WriteAt z at bytes) is_calm in
    let two : issue old.world (WriteAt z at other) ≡ outcome (done t (WriteAt z at other)) [] None = calm_outcome old.world (WriteAt z at other) is_calm in
    let replies : (issue old.world (WriteAt z at bytes)).reply ≡ (issue old.world (WriteAt z at other)).reply =
    ap (λ (o : Outcome). o.reply) one ∙ reply_same t z at bytes other ∙ sym (ap (λ (o : Outcome). o.reply) two) in
    record {
      obeys = record {
        reply = λ answered. h.obeys.reply answered ∙ replies;
        world = λ answered.
            h.obeys.world answered ∙ ap (λ (o : Outcome). o.world) one
            ∙ ap calm (refused_same t z at bytes other e (h.obeys.reply answered ∙ ap (λ (o : Outcome). o.reply) one))
            ∙ sym (ap (λ (o : Outcome). o.world) two);
        geometry = h.obeys.geometry;
      };
      caused = h.caused;
      named = λ keeps refused. h.named keeps (ap is_refused replies ∙ refused);
    }

-- one block more
pub filled_next : (z at n m byte : ℕ) (block : List ℕ) (r : Reply) (old middle new : DeviceState) → block ≡ filled_with 1 byte → 1 ≤ n → n < m
    → Commanded (WriteAt z at (filled_with n byte)) (Ok tt) old middle → Commanded (WriteAt z (at + n) block) r middle new → old.world ≡ calm old.world.truth
    → IsZoneToManage (geometry_of old.world) z → Fits (geometry_of old.world) z at m → Commanded (WriteAt z at (filled_with (n + 1) byte)) r old new
filled_next z at n m byte block r old middle new is some less one two is_calm zone fits =
    let place : at + n ≡ at + length (filled_with n byte) / 4096 = omega (arith, filled_blocks n byte) in
    let second : Commanded (WriteAt z (at + length (filled_with n byte) / 4096) (filled_with 1 byte)) r middle new =
    subst (λ (k : ℕ). Commanded (WriteAt z k (filled_with 1 byte)) r middle new) place (subst (λ (bs : List ℕ). Commanded (WriteAt z (at + n) bs) r middle new) is two) in
    subst (λ (bs : List ℕ). Commanded (WriteAt z at bs) r old new) (filled_more n byte)
    (joined_commanded z at (filled_with n byte) (filled_with 1 byte) r old middle new one second is_calm zone (filled_whole n byte some) (filled_whole 1 byte (omega arith))
    (record { zone = fits.zone; room = omega (arith, fits.room, filled_blocks n byte, filled_blocks 1 byte) }))

-- ---- a zone that is settled as it is

pub settled_whole : (z held : ℕ) (info : ZoneInfo) (r : Reply) (old middle new : DeviceState) → Harmed old.world.truth (Ok tt) old middle → info ≡ info_at old.world.truth z → held ≡ info.held
    → Harmed (with_zone middle.world.truth z (settled (zone_at middle.world.truth z) held held None)) r middle new
    → Harmed (with_zone old.world.truth z (settled (zone_at old.world.truth z) (zone_at old.world.truth z).held (zone_at old.world.truth z).held None)) r old new
settled_whole z held info r old middle new asked told held_is h =
    let t = old.world.truth in
    let same : with_zone middle.world.truth z (settled (zone_at middle.world.truth z) held held None) ≡ with_zone t z (settled (zone_at t z) (zone_at t z).held (zone_at t z).held None) =
    ap (λ (v : Truth). with_zone v z (settled (zone_at v z) held held None)) (truth_between asked)
    ∙ ap (λ n. with_zone t z (settled (zone_at t z) n n None)) (held_is ∙ ap (λ (i : ZoneInfo). i.held) told) in
    then_harmed t _ r old middle new asked (subst (λ (v : Truth). Harmed v r middle new) same h)

-- ---- the first blocks of a write

-- so many blocks of the bytes, or all
front_is : (blocks n : ℕ) (bytes part : List ℕ) → part ≡ take (4096 * n) bytes → n ≡ min blocks (length bytes / 4096) → IsWhole bytes → part ≡ take (4096 * blocks) bytes
front_is blocks n bytes part is n_is whole = ⊎_elim
    (λ less. is ∙ ap (λ k. take (4096 * k) bytes) (omega (arith, n_is)))
    (λ all. is ∙ take_all (4096 * n) bytes (omega (arith, n_is, whole.whole)) ∙ sym (take_all (4096 * blocks) bytes (omega (arith, whole.whole))))
    (cases_lt blocks (length bytes / 4096))

-- the zone with all that it holds durable
abbrev pub whole_at : Truth → ℕ → Truth
whole_at t z = with_zone t z (settled (zone_at t z) (zone_at t z).held (zone_at t z).held None)

pub front_written : (z at blocks n : ℕ) (bytes part : List ℕ) (fill : Option ℕ) (r s : Reply) (old middle new : DeviceState) → part ≡ take (4096 * n) bytes → n ≡ min blocks (length bytes / 4096) → IsWhole bytes
    → Commanded (WriteAt z at (stored fill part)) r old middle → unrefused r ≡ Ok tt → old.world ≡ calm old.world.truth → old.faults ≡ 0 → middle.faults ≡ 0 → Harmed (whole_at middle.world.truth z) s middle new
    → Harmed (whole_at (done old.world.truth (WriteAt z at (stored fill (take (4096 * blocks) bytes)))).truth z) s old new
front_written z at blocks n bytes part fill r s old middle new is n_is whole h ok is_calm faultless still second =
    let after : List ℕ → Truth = λ bs. (done old.world.truth (WriteAt z at (stored fill bs))).truth in
    let first : Harmed (after part) (Ok tt) old middle = subst (λ (v : Reply). Harmed (after part) v old middle) ok (done_harmed (WriteAt z at (stored fill part)) r old middle h is_calm faultless still) in
    subst (λ (bs : List ℕ). Harmed (whole_at (after bs) z) s old new) (front_is blocks n bytes part is n_is whole)
    (then_harmed (after part) (whole_at (after part) z) s old middle new first (subst (λ (t : Truth). Harmed (whole_at t z) s middle new) (truth_between first) second))

-- ---- the power goes inside a command

-- a write to a conventional zone
pub whole_write : (z at : ℕ) (bytes : List ℕ) (loss : LossSpec) (r : Reply) (old new : DeviceState) → kind_at (geometry_of old.world) z ≡ Conventional → Commanded (WriteAt z at bytes) r old new
    → old.world ≡ calm old.world.truth → old.faults ≡ 0 → new.faults ≡ 0
    → Harmed (write_during (is_sequential (zone_at old.world.truth z).kind) old.world.truth z at bytes loss) (unrefused r) old new
whole_write z at bytes loss r old new conventional h is_calm faultless still =
    subst (λ (k : Kind). Harmed (write_during (is_sequential k) old.world.truth z at bytes loss) (unrefused r) old new) (sym (sym (kind_is old.world z) ∙ conventional))
    (done_harmed (WriteAt z at bytes) r old new h is_calm faultless still)

-- and one to a sequential zone
pub short_write : (z at : ℕ) (bytes : List ℕ) (loss : LossSpec) (r : Reply) (old new : DeviceState) → kind_at (geometry_of old.world) z ≡ Sequential → Harmed (cut_write old.world.truth z at bytes loss) r old new
    → Harmed (write_during (is_sequential (zone_at old.world.truth z).kind) old.world.truth z at bytes loss) r old new
short_write z at bytes loss r old new sequential h =
    subst (λ (k : Kind). Harmed (write_during (is_sequential k) old.world.truth z at bytes loss) r old new) (sym (sym (kind_is old.world z) ∙ sequential)) h

pub write_is_during : (t : Truth) (z at : ℕ) (bytes : List ℕ) (carried_out : Bool) (loss : LossSpec) → write_during (is_sequential (zone_at t z).kind) t z at bytes loss ≡ during t (WriteAt z at bytes) carried_out loss
unfolding during
write_is_during t z at bytes carried_out loss = refl

-- a reset or finish that is carried out, and a command that isn't
managed_during : (op : ZoneOp) (t : Truth) (z : ℕ) (carried_out : Bool) (loss : LossSpec) → during t (Manage z op) carried_out loss ≡ (if is_carried_out op carried_out then (done t (Manage z op)).truth else t)
unfolding during
managed_during Open t z carried_out loss = refl
managed_during Close t z carried_out loss = refl
managed_during Reset t z carried_out loss = refl
managed_during Finish t z carried_out loss = refl

pub manage_done : (z : ℕ) (op : ZoneOp) (armed : Armed) (r : Reply) (old new : DeviceState) → is_carried_out op armed.carried_out ≡ true → Commanded (Manage z op) r old new
    → old.world ≡ calm old.world.truth → old.faults ≡ 0 → new.faults ≡ 0 → Harmed (during old.world.truth (Manage z op) armed.carried_out armed.loss) (unrefused r) old new
manage_done z op armed r old new is h is_calm faultless still =
    let t = old.world.truth in
    subst (λ (u : Truth). Harmed u (unrefused r) old new)
    (sym (managed_during op t z armed.carried_out armed.loss ∙ ap (λ b. if b then (done t (Manage z op)).truth else t) is))
    (done_harmed (Manage z op) r old new h is_calm faultless still)

pub manage_left : (z : ℕ) (op : ZoneOp) (armed : Armed) (s : DeviceState) → is_carried_out op armed.carried_out ≡ false → s.spoilt ≡ false → Harmed (during s.world.truth (Manage z op) armed.carried_out armed.loss) (Ok tt) s s
manage_left z op armed s is unspoilt =
    let t = s.world.truth in
    subst (λ (u : Truth). Harmed u (Ok tt) s s) (sym (managed_during op t z armed.carried_out armed.loss ∙ ap (λ b. if b then (done t (Manage z op)).truth else t) is)) (unharmed s unspoilt)

-- all zones then lose what they lose
pub lost_during : (order : Order) (armed : Armed) (before : Truth) (r : Reply) (old middle new : DeviceState) → before ≡ during old.world.truth order armed.carried_out armed.loss → Harmed before (Ok tt) old middle
    → Harmed (lost middle.world.truth armed.loss) r middle new → Harmed (lost_inside old.world.truth order armed) r old new
lost_during order armed before r old middle new is first second =
    then_harmed before (lost_inside old.world.truth order armed) r old middle new first
    (subst (λ (t : Truth). Harmed (lost t armed.loss) r middle new) (truth_between first ∙ is) second)
