use Rattle.std.proofs.Common.{rules, [], ◌∷◌}
use Rattle.std.proofs.lemmas.Grind.{common_steps}
use Rattle.zn_truth.specs.declared.ZoneOp.TheVariants.{Finish}
use Rattle.zn_truth.specs.Orders.{Manage}
use Rattle.zn_device.specs.States.{Ordered}
use Rattle.zn_device.proofs.Ordered.{ordered_one}
use Rattle.zn_io.proofs.changes.resize.Goals as goal

pub returns-else-size-eq0 : goal.returns-else-size-eq0
returns-else-size-eq0 g c =
    let state = g.D.Zoned.state in
    let h : Ordered (Manage c.args.file.now.first Finish ∷ []) c.manage.result (state c.args.dev.now) (state c.manage.new.self) =
    ordered_one _ _ _ _ c.manage.ensures.done in
    grind (rules, common_steps, h)
