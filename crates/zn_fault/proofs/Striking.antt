-- What a fault lets a device do.
use Rattle.std.proofs.Common.{◌≡◌, ℕ, [], ◌*◌, ◌/◌, ◌<◌, min, List, length, take, None, Ok, Err, refl, sym, ap, ◌∙◌, arith}
use Rattle.std.specs.Prelude.{not, unwrap_or, IsErr, IsErrOf}
use Rattle.std.proofs.lemmas.Bool.{false≢true}
use Rattle.std.proofs.lemmas.Grind.{common_steps}
use Rattle.zn_truth.specs.declared.DevError.TheVariants.{Fault, Broken, Memory}
use Rattle.zn_truth.specs.declared.FaultSpec.{FaultSpec}
use Rattle.zn_truth.specs.Truth.{Truth}
use Rattle.zn_truth.specs.Orders.{Order, WriteAt, FlushAll, Reply, Done, done}
use Rattle.zn_truth.specs.World.{World, Outcome, issue, calm, outcome, as_fault, broken_off, faulted, settled_by_flush}
use Rattle.zn_truth.specs.Obeying.{is_answered}
use Rattle.zn_truth.proofs.Issuing.{calm_done}
use Rattle.zn_device.specs.Causes.{is_refused}
use Rattle.zn_device.specs.States.{DeviceState, Commanded}
use Rattle.zn_device.specs.Harms.{Harmed}
use Rattle.zn_fault.specs.Strikes.{Struck}

-- ---- a success that becomes the fault

fault_answers : (r : Reply) → is_answered (as_fault r) ≡ is_answered r
fault_answers (Ok unit) = refl
fault_answers (Err error) = refl

fault_fails : (r : Reply) → IsErr (as_fault r)
fault_fails (Ok unit) = refl
fault_fails (Err error) = refl

-- a break, and want of memory, are told as they are
broken_told : (r : Reply) → IsErrOf (as_fault r) Broken → IsErrOf r Broken
broken_told (Ok unit) is = absurd (cc)
broken_told (Err error) is = is

memory_told : (r : Reply) → IsErrOf (as_fault r) Memory → IsErrOf r Memory
memory_told (Ok unit) is = absurd (cc)
memory_told (Err error) is = is

fault_refused : (r : Reply) → is_refused (as_fault r) ≡ is_refused r
fault_refused (Ok unit) = refl
fault_refused (Err error) = refl

-- ---- a write

pub calm_outcome : (w : World) (order : Order) → w ≡ calm w.truth → issue w order ≡ outcome (done w.truth order) [] None
calm_outcome w order is_calm = ap (λ v. issue v order) is_calm ∙ calm_done w.truth order

-- a write that a fault meets is one of its first blocks, if the fault keeps some
part_written : (t : Truth) (z at keep : ℕ) (bytes part : List ℕ) (fault : FaultSpec) → keep ≡ min (unwrap_or fault.keep 0) (length bytes / 4096) → 0 < keep → part ≡ take (4096 * keep) bytes
    → faulted t (WriteAt z at bytes) fault ≡ broken_off (done t (WriteAt z at part))
unfolding faulted
part_written t z at keep bytes part fault is_keep some is_part = grind (arith, common_steps)

-- and nothing, if it keeps none
pub none_written : (t : Truth) (z at : ℕ) (bytes : List ℕ) (fault : FaultSpec) → min (unwrap_or fault.keep 0) (length bytes / 4096) ≡ 0
    → faulted t (WriteAt z at bytes) fault ≡ record { reply = Err Fault; truth = t }
unfolding faulted
none_written t z at bytes fault none = grind (arith, common_steps)

pub part_struck : (z at keep : ℕ) (bytes part : List ℕ) (fault : FaultSpec) (r : Reply) (old new : DeviceState)
    → Commanded (WriteAt z at part) r old new → old.world ≡ calm old.world.truth → keep ≡ min (unwrap_or fault.keep 0) (length bytes / 4096) → 0 < keep → part ≡ take (4096 * keep) bytes
    → Struck (WriteAt z at bytes) fault (as_fault r) old new
part_struck z at keep bytes part fault r old new h is_calm is_keep some is_part =
    let same : _ = calm_outcome old.world (WriteAt z at part) is_calm in
    let is : _ = part_written old.world.truth z at keep bytes part fault is_keep some is_part in
    let answers : _ = fault_answers r in
    record {
      reply = λ answered. ap as_fault (h.obeys.reply (sym answers ∙ answered) ∙ ap (λ (o : Outcome). o.reply) same) ∙ sym (ap (λ (d : Done). d.reply) is);
      truth = λ answered. ap (λ (w : World). w.truth) (h.obeys.world (sym answers ∙ answered) ∙ ap (λ (o : Outcome). o.world) same) ∙ sym (ap (λ (d : Done). d.truth) is);
      failed = fault_fails r;
      spoilt = h.caused.spoilt ∙ ap not (sym answers);
      no_fewer = h.caused.cause.no_fewer;
      broken = λ told. h.caused.cause.broken (broken_told r told);
      whole = λ answered. h.caused.cause.whole (sym answers ∙ answered);
      memory = λ none told. h.caused.memory none (memory_told r told);
      same = h.caused.same;
      keeps = h.caused.keeps;
      geometry = h.obeys.geometry;
      named = λ keeps refused told. h.named keeps (ap is_refused (ap (λ (o : Outcome). o.reply) same) ∙ sym (fault_refused (done old.world.truth (WriteAt z at part)).reply) ∙ sym (ap (λ (d : Done). is_refused d.reply) is) ∙ refused) (broken_told r told);
    }

-- ---- a flush

pub settled_struck : (fault : FaultSpec) (r : Reply) (old new : DeviceState) → Harmed (settled_by_flush old.world.truth fault.zone.0 (unwrap_or fault.keep 0)) r old new
    → Struck FlushAll fault (as_fault r) old new
unfolding faulted
settled_struck fault r old new h =
    let answers : _ = fault_answers r in
    record {
      reply = λ answered. ap as_fault (h.done (sym answers ∙ answered));
      truth = λ answered. ap (λ (w : World). w.truth) (h.world (sym answers ∙ answered));
      failed = fault_fails r;
      spoilt = h.caused.spoilt ∙ ap not (sym answers);
      no_fewer = h.caused.cause.no_fewer;
      broken = λ told. h.caused.cause.broken (broken_told r told);
      whole = λ answered. h.caused.cause.whole (sym answers ∙ answered);
      memory = λ none told. h.caused.memory none (memory_told r told);
      same = h.caused.same;
      keeps = h.caused.keeps;
      geometry = h.geometry;
      named = λ keeps refused told. false≢true refused;
    }
