use Rattle.std.proofs.Common.{length, sym, ap, ◌∙◌, subst}
use Rattle.zn_pool.specs.PoolState.{IsParted}
use Rattle.zn_pool.specs.Chains.{padded}
use Rattle.zn_pool.proofs.ChainLaws.{length-chain}
use Rattle.zn_pool.proofs.Moves.{is_parted}
use Rattle.zn_pool.proofs.pool.Pool.free.Goals as goal

pub returns-clause-count : goal.returns-clause-count
returns-clause-count c =
    let a = c.self.inside in
    sym (length-chain a.links.items a.head a.free) ∙ ap (λ p. length p.free) c.self.view_is

pub returns-clause-parted : goal.returns-clause-parted
returns-clause-parted c =
    let a = c.self.inside in
    subst IsParted c.self.view_is (is_parted (padded (length a.links.items) a.region.items) a.links.items a.counts.items a.head a.free c.self.invariant.fields)
