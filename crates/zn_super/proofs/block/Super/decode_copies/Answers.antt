use Rattle.std.proofs.Common.{ℕ, take, drop, sym, ap, ◌∙◌, arith}
use Rattle.std.proofs.lemmas.List.{length-take-le, length-drop}
use Rattle.zn_super.proofs.Places.{to_the_end}
use Rattle.zn_super.proofs.Blocks.{copies_read, byte_of-take, byte_of-drop}
use Rattle.zn_model.specs.SuperBlock.{decoded}
use Rattle.zn_super.proofs.block.Super.decode_copies.Goals as goal

pub slice_bounds-read-end : goal.slice_bounds-read-end
slice_bounds-read-end c = sym (length-take-le 4096 c.args.copies.now (omega arith))

pub returns-clause-answer : goal.returns-clause-answer
returns-clause-answer c = c.read.ensures ∙ ap (decoded (take 4096 c.args.copies.now)) (to_the_end c.args.copies.now 4096)

pub returns-clause-copies : goal.returns-clause-copies
returns-clause-copies c =
    let bytes = λ (k : ℕ). (c.type_inv.copies k).fits in
    copies_read c.read.result (take 4096 c.args.copies.now) (drop 4096 c.args.copies.now)
    (length-take-le 4096 c.args.copies.now (omega arith))
    (omega (arith, length-drop 4096 c.args.copies.now))
    (byte_of-take 4096 c.args.copies.now bytes)
    (byte_of-drop 4096 c.args.copies.now bytes)
    (returns-clause-answer c)
