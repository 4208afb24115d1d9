use Rattle.std.proofs.Common.{◌≡◌, ◌-◌, ◌*◌, ◌++◌, length, take}
use Rattle.zn_truth.specs.declared.limits.TheConstants.{BLOCK_SIZE}
use Rattle.zn_pool.specs.Chains.{chain, AreBelow, chain_bytes, padded}
use Rattle.zn_pool.proofs.chains.read_chain.Given as goal

abbrev pub invariant-loop-i : goal.invariant-loop-i
invariant-loop-i l =
    AreBelow (length l.links) (chain l.links l.at (l.blocks - l.i))
    × (take (BLOCK_SIZE * l.i) l.out ++ chain_bytes (padded (length l.links) l.region) (chain l.links l.at (l.blocks - l.i)) ≡ chain_bytes (padded (length l.links) l.region) (chain l.links l.first l.blocks))
