use Rattle.std.proofs.Common.{rules, [], ◌∷◌}
use Rattle.std.proofs.lemmas.Grind.{common_steps}
use Rattle.zn_truth.specs.declared.ZoneOp.TheVariants.{Open, Reset}
use Rattle.zn_truth.specs.Orders.{Manage}
use Rattle.zn_device.specs.States.{Ordered}
use Rattle.zn_device.proofs.Ordered.{ordered_then, ordered_one, ordered_failed}
use Rattle.zn_io.proofs.changes.reset.Goals as goal

pub returns-in-Err : goal.returns-in-Err
returns-in-Err g c = record { done = ordered_failed _ _ _ _ _ c.in-Err.ensures.done }

pub returns-in-Ok : goal.returns-in-Ok
returns-in-Ok g c =
    let state = g.D.Zoned.state in
    let h : Ordered (Manage c.args.zone.0 Reset ∷ Manage c.args.zone.0 Open ∷ []) c.manage-in-Ok.result (state c.args.dev.now) (state c.manage-in-Ok.new.self) =
    ordered_then _ _ _ _ _ _ c.in-Ok.ensures.done (ordered_one _ _ _ _ c.manage-in-Ok.ensures.done) in
    grind (rules, common_steps, h)
