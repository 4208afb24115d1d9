use Rattle.std.proofs.Common.{rules, [], ◌∷◌, Err}
use Rattle.std.proofs.lemmas.Grind.{common_steps}
use Rattle.zn_truth.specs.Orders.{WriteAt, FlushAll}
use Rattle.zn_device.specs.States.{Ordered}
use Rattle.zn_device.proofs.Ordered.{ordered_one, ordered_failed, ordered_then}
use Rattle.zn_mkfs.proofs.copies.write_block.Goals as goal

pub returns-in_err-write : goal.returns-in_err-write
returns-in_err-write g c =
    let state = g.D.Zoned.state in
    let h : Ordered (WriteAt 0 c.args.at c.args.block.now ∷ FlushAll ∷ []) (Err c.in_err-write.field-0.0) (state c.args.dev.now) (state c.write.new.self) =
    ordered_failed _ _ _ _ _ c.in_err-write.ensures.done in
    grind (rules, common_steps, h)

pub returns : goal.returns
returns g c =
    let state = g.D.Zoned.state in
    let h : Ordered (WriteAt 0 c.args.at c.args.block.now ∷ FlushAll ∷ []) c.flush.result (state c.args.dev.now) (state c.flush.new.self) =
    ordered_then _ _ _ _ _ _ c.in_ok-write.ensures.done (ordered_one _ _ _ _ c.flush.ensures.done) in
    grind (rules, common_steps, h)
