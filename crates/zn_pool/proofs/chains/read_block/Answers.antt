use Rattle.std.proofs.Common.{◌≡◌, ◌+◌, ◌-◌, ◌*◌, ◌≤◌, length, take, drop, replicate, sym, ap, ◌∙◌, arith, rules}
use Rattle.zn_truth.specs.declared.limits.TheConstants.{BLOCK_SIZE}
use Rattle.zn_pool.proofs.Padding.{block-before, block-behind}
use Rattle.zn_pool.proofs.chains.read_block.Goals as goal

pub returns-then-from-region : goal.returns-then-from-region
returns-then-from-region c count within =
    let region = c.args.region.now in
    let b = c.args.b in
    let one : BLOCK_SIZE * b + BLOCK_SIZE - BLOCK_SIZE * b ≡ BLOCK_SIZE = omega arith in
    let inside : BLOCK_SIZE * b + BLOCK_SIZE ≤ length region = omega (arith, c.requires.region, c.if-from-region.true) in
    c.copy_from_slice.ensures.after ∙ ap (λ k. take k (drop (BLOCK_SIZE * b) region)) one ∙ sym (block-before count b region within inside)

pub returns-else-from-region : goal.returns-else-from-region
returns-else-from-region c count within =
    let past : length c.args.region.now ≤ BLOCK_SIZE * c.args.b = omega (arith, c.if-from-region.false) in
    let zeros : c.fill.new.self ≡ replicate (length c.args.out.now) 0 = search rules in
    zeros ∙ ap (λ n. replicate n 0) c.requires.out ∙ sym (block-behind count c.args.b c.args.region.now within past)
