use Rattle.std.proofs.Common.{◌<◌, length, rules, Ok, Err, subst, arith}
use Rattle.std.proofs.lemmas.Grind.{common_steps}
use Rattle.zn_truth.specs.Truth.{Geometry}
use Rattle.zn_truth.specs.World.{geometry_of}
use Rattle.zn_device.specs.States.{Ordered}
use Rattle.zn_mkfs.specs.Plans.{reset_of, resets_below}
use Rattle.zn_mkfs.proofs.ResetLaws.{resets_step, resets_stopped}
use Rattle.zn_mkfs.proofs.resets.reset_others.Goals as goal

pub returns-in_err-reset_other : goal.returns-in_err-reset_other
returns-in_err-reset_other g c =
    let state = g.D.Zoned.state in
    let now = geometry_of (state c.args.dev.now).world in
    let below : c.loop-z.z < length c.args.infos.now = omega arith in
    let step = subst (λ (geometry : Geometry). Ordered (reset_of geometry c.args.infos.now c.loop-z.z) (Err c.in_err-reset_other.field-0.0) (state c.loop-z.dev) (state c.reset_other.new.dev)) c.loop-z.invariant.done.obeys.geometry c.in_err-reset_other.ensures.done in
    let h : Ordered (resets_below now c.args.infos.now (length c.args.infos.now)) (Err c.in_err-reset_other.field-0.0) (state c.args.dev.now) (state c.reset_other.new.dev) =
    resets_stopped now c.args.infos.now c.loop-z.z (length c.args.infos.now) _ _ _ _ below c.loop-z.invariant.done step in
    grind (rules, common_steps, h)

pub loop-z-preserved : goal.loop-z-preserved
loop-z-preserved g c =
    let state = g.D.Zoned.state in
    let now = geometry_of (state c.args.dev.now).world in
    let step = subst (λ (geometry : Geometry). Ordered (reset_of geometry c.args.infos.now c.loop-z.z) (Ok tt) (state c.loop-z.dev) (state c.reset_other.new.dev)) c.loop-z.invariant.done.obeys.geometry c.in_ok-reset_other.ensures.done in
    record { done = resets_step now c.args.infos.now c.loop-z.z _ _ _ _ c.loop-z.invariant.done step }
