use Rattle.std.proofs.Common.{◌≡◌, ◌-◌, ◌*◌, length, drop}
use Rattle.zn_truth.specs.declared.limits.TheConstants.{BLOCK_SIZE}
use Rattle.zn_pool.specs.Chains.{chain, AreBelow, chain_filled, padded, IsRegion}
use Rattle.zn_pool.proofs.chains.fill_chain.Given as goal

abbrev pub invariant-loop-i : goal.invariant-loop-i
invariant-loop-i l =
    IsRegion (length l.links) l.region
    × AreBelow (length l.links) (chain l.links l.at (l.blocks - l.i))
    × (chain_filled (padded (length l.links) l.region.items) (chain l.links l.at (l.blocks - l.i)) (drop (BLOCK_SIZE * l.i) l.bytes) ≡ chain_filled (padded (length l.links) l.fn.region.items) (chain l.links l.first l.blocks) l.bytes)
