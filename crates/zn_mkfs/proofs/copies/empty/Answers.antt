use Rattle.std.proofs.Common.{rules, [], ◌∷◌}
use Rattle.std.proofs.lemmas.Grind.{common_steps}
use Rattle.zn_truth.specs.declared.ZoneOp.TheVariants.{Reset}
use Rattle.zn_truth.specs.Orders.{Manage}
use Rattle.zn_device.specs.States.{Ordered}
use Rattle.zn_device.proofs.Ordered.{ordered_one}
use Rattle.zn_mkfs.proofs.copies.empty.Goals as goal

pub returns-then-sequential : goal.returns-then-sequential
returns-then-sequential g c =
    let state = g.D.Zoned.state in
    let h : Ordered (Manage 0 Reset ∷ []) c.manage.result (state c.args.dev.now) (state c.manage.new.self) = ordered_one _ _ _ _ c.manage.ensures.done in
    grind (rules, common_steps, h)
