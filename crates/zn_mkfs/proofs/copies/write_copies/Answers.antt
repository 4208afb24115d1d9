use Rattle.std.proofs.Common.{List, true, rules, [], ◌∷◌, ℕ, Err}
use Rattle.std.proofs.lemmas.Grind.{common_steps}
use Rattle.zn_truth.specs.declared.ZoneOp.TheVariants.{Finish}
use Rattle.zn_truth.specs.Orders.{Order, WriteAt, FlushAll, Manage}
use Rattle.zn_device.specs.States.{Ordered}
use Rattle.zn_device.proofs.Ordered.{ordered_append, ordered_failure, ordered_one}
use Rattle.zn_model.specs.Formatting.{copies}
use Rattle.zn_mkfs.proofs.copies.write_copies.Goals as goal

-- both blocks of a sequential zone are written
abbrev both_writes : List ℕ → List Order
both_writes block = WriteAt 0 0 block ∷ FlushAll ∷ WriteAt 0 1 block ∷ FlushAll ∷ []

pub returns-in_err-write_blocks : goal.returns-in_err-write_blocks
returns-in_err-write_blocks g c =
    let state = g.D.Zoned.state in
    let h : Ordered (copies true c.args.block.now) (Err c.in_err-write_blocks.field-0.0) (state c.args.dev.now) (state c.write_blocks.new.dev) =
    ordered_failure (both_writes c.args.block.now) (Manage 0 Finish ∷ []) _ _ _ c.in_err-write_blocks.ensures.done in
    grind (rules, common_steps, h)

pub returns-in_ok-write_blocks : goal.returns-in_ok-write_blocks
returns-in_ok-write_blocks g c =
    let state = g.D.Zoned.state in
    let h : Ordered (copies true c.args.block.now) c.finish.result (state c.args.dev.now) (state c.finish.new.dev) =
    ordered_append (both_writes c.args.block.now) (Manage 0 Finish ∷ []) _ _ _ _ c.in_ok-write_blocks.ensures.done (ordered_one _ _ _ _ c.finish.ensures.done) in
    grind (rules, common_steps, h)
