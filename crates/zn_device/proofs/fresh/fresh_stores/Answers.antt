use Rattle.std.proofs.Common.{[], take, length, get_or, arith, refl, ap, subst}
use Rattle.std.proofs.lemmas.List.{take_all, take_more}
use Rattle.zn_truth.specs.declared.Kind.TheVariants.{Conventional}
use Rattle.zn_device.specs.Stores.{AreFresh}
use Rattle.zn_device.proofs.Begins.{are_fresh_none, are_fresh_more}
use Rattle.zn_device.proofs.fresh.fresh_stores.Goals as goal

pub loop-kind-init : goal.loop-kind-init
loop-kind-init c = are_fresh_none c.args.shape [] c.new-stores.result.items refl (ap length c.new-stores.ensures.items)

pub loop-kind-preserved : goal.loop-kind-preserved
loop-kind-preserved c =
    rw (c.in_ok-push.ensures.items, take_more c.args.kinds.now c.loop-kind.kind-index Conventional (omega arith))
    (are_fresh_more c.args.shape (take c.loop-kind.kind-index c.args.kinds.now) c.loop-kind.stores.items (get_or c.args.kinds.now c.loop-kind.kind-index Conventional) c.in_ok-new.field-0
    c.loop-kind.invariant c.in_ok-new.ensures.zone c.in_ok-new.ensures.buffer)

pub returns : goal.returns
returns c = subst (λ kinds. AreFresh c.args.shape kinds c.loop-kind.stores.items) (take_all c.loop-kind.kind-index c.args.kinds.now (omega arith)) c.loop-kind.invariant
