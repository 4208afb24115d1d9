use Rattle.std.proofs.Common.{rules, [], ◌∷◌, Err}
use Rattle.std.proofs.lemmas.Grind.{common_steps}
use Rattle.zn_truth.specs.Orders.{Order, WriteAt, FlushAll}
use Rattle.std.proofs.Common.{List, ℕ}
use Rattle.zn_device.specs.States.{Ordered}
use Rattle.zn_device.proofs.Ordered.{ordered_append, ordered_failure}
use Rattle.zn_mkfs.proofs.copies.write_blocks.Goals as goal

-- a block is written and made durable
abbrev one_write : ℕ → List ℕ → List Order
one_write at block = WriteAt 0 at block ∷ FlushAll ∷ []

abbrev both_writes : ℕ → ℕ → List ℕ → List Order
both_writes first second block = WriteAt 0 first block ∷ FlushAll ∷ WriteAt 0 second block ∷ FlushAll ∷ []

pub returns-in_err-write_block : goal.returns-in_err-write_block
returns-in_err-write_block g c =
    let state = g.D.Zoned.state in
    let h : Ordered (both_writes c.args.first c.args.second c.args.block.now) (Err c.in_err-write_block.field-0.0) (state c.args.dev.now) (state c.write_block.new.dev) =
    ordered_failure (one_write c.args.first c.args.block.now) (one_write c.args.second c.args.block.now) _ _ _ c.in_err-write_block.ensures.done in
    grind (rules, common_steps, h)

pub returns : goal.returns
returns g c =
    let state = g.D.Zoned.state in
    let h : Ordered (both_writes c.args.first c.args.second c.args.block.now) c.write_block-2.result (state c.args.dev.now) (state c.write_block-2.new.dev) =
    ordered_append (one_write c.args.first c.args.block.now) (one_write c.args.second c.args.block.now) _ _ _ _ c.in_ok-write_block.ensures.done c.write_block-2.ensures.done in
    grind (rules, common_steps, h)
