use Rattle.std.proofs.Common.{length, sym, ◌∙◌, subst}
use Rattle.zn_pool.specs.Chains.{AreBelow}
use Rattle.zn_pool.proofs.ChainLaws.{block_after-left, chain-left}
use Rattle.zn_pool.proofs.chains.block_after.Goals as goal

pub bounds-links-at : goal.bounds-links-at
bounds-links-at c =
    let links = c.args.links.now in
    (subst (AreBelow (length links)) (chain-left links c.loop.at c.args.steps c.loop.counter c.loop-test.true) c.loop.invariant.1).0

pub loop-preserved : goal.loop-preserved
loop-preserved c =
    let links = c.args.links.now in
    let left = chain-left links c.loop.at c.args.steps c.loop.counter c.loop-test.true in
    (sym (block_after-left links c.loop.at c.args.steps c.loop.counter c.loop-test.true) ∙ c.loop.invariant.0, (subst (AreBelow (length links)) left c.loop.invariant.1).1)
