use Rattle.std.proofs.Common.{◌≡◌, ◌+◌, ◌-◌, ◌*◌, ◌<◌, length, get_or, take, drop, sym, ap, ◌∙◌, subst, arith}
use Rattle.zn_truth.specs.declared.limits.TheConstants.{BLOCK_SIZE}
use Rattle.zn_truth.specs.Orders.{replaced}
use Rattle.zn_pool.specs.Chains.{chain, AreBelow, chain_filled, padded}
use Rattle.zn_pool.proofs.ChainLaws.{chain-left}
use Rattle.zn_pool.proofs.BlockBytes.{chain_filled-left}
use Rattle.zn_pool.proofs.chains.fill_chain.Goals as goal

pub fill_block-requires-clause-room : goal.fill_block-requires-clause-room
fill_block-requires-clause-room c =
    let links = c.args.links.now in
    let within : c.loop-i.at < length links = (subst (AreBelow (length links)) (chain-left links c.loop-i.at c.args.blocks c.loop-i.i c.loop-i-test.true) c.loop-i.invariant.1).0 in
    omega (arith, c.loop-i.invariant.0.room)

pub loop-i-preserved : goal.loop-i-preserved
loop-i-preserved c =
    let links = c.args.links.now in
    let bytes = c.args.bytes.now in
    let region = padded (length links) c.loop-i.region.items in
    let new = padded (length links) c.fill_block.new.region.items in
    let at = c.loop-i.at in
    let i = c.loop-i.i in
    let below = subst (AreBelow (length links)) (chain-left links at c.args.blocks i c.loop-i-test.true) c.loop-i.invariant.1 in
    let one : BLOCK_SIZE * i + BLOCK_SIZE - BLOCK_SIZE * i ≡ BLOCK_SIZE = omega arith in
    let now : new ≡ replaced region (BLOCK_SIZE * at) (take BLOCK_SIZE (drop (BLOCK_SIZE * i) bytes)) = c.fill_block.ensures.bytes (length links) below.0 ∙ ap (λ k. replaced region (BLOCK_SIZE * at) (take k (drop (BLOCK_SIZE * i) bytes))) one in (
      c.fill_block.ensures.region (length links) below.0 c.loop-i.invariant.0,
      below.1,
      ap (λ xs. chain_filled xs (chain links (get_or links at 0) (c.args.blocks - (i + 1))) (drop (BLOCK_SIZE * (i + 1)) bytes)) now
          ∙ sym (chain_filled-left region links bytes at c.args.blocks i c.loop-i-test.true)
          ∙ c.loop-i.invariant.2,
    )
