use Rattle.std.proofs.Common.{◌≡◌, ◌-◌, length}
use Rattle.zn_pool.specs.Chains.{chain, block_after, AreBelow}
use Rattle.zn_pool.proofs.chains.block_after.Given as goal

abbrev pub invariant-loop : goal.invariant-loop
invariant-loop l =
    (block_after l.links l.at (l.steps - l.counter) ≡ block_after l.links l.first l.steps) × AreBelow (length l.links) (chain l.links l.at (l.steps - l.counter))
