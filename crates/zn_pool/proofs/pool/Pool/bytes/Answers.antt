use Rattle.std.proofs.Common.{length, sym, ap, ◌∙◌, subst}
use Rattle.zn_pool.specs.PoolState.{IsLive, bytes_at, bytes_of}
use Rattle.zn_pool.specs.Chains.{chain, AreBelow, chain_bytes, padded, AreWhole}
use Rattle.zn_pool.proofs.KeptLaws.{found}
use Rattle.zn_pool.proofs.Moves.{below_found, at_found}
use Rattle.zn_pool.proofs.pool.Pool.bytes.Goals as goal

pub read_chain-requires-clause-region : goal.read_chain-requires-clause-region
read_chain-requires-clause-region c = subst AreWhole (sym c.deref.ensures.value) c.self.invariant.region.whole

pub read_chain-requires-clause-blocks : goal.read_chain-requires-clause-blocks
read_chain-requires-clause-blocks c =
    let a = c.self.inside in
    let lease = c.args.lease.now in
    let it = found (padded (length a.links.items) a.region.items) a.links.items a.counts.items a.head a.free lease (subst (λ p. IsLive p lease) (sym c.self.view_is) c.requires.live) in
    let below = below_found (padded (length a.links.items) a.region.items) a.links.items a.counts.items a.head a.free c.self.invariant.fields lease it in
    subst (λ links. AreBelow (length links) (chain links lease.first lease.blocks)) (sym c.deref-2.ensures.value) (subst (λ n. AreBelow n (chain a.links.items lease.first lease.blocks)) (sym c.self.invariant.fields.linked) below)

pub returns : goal.returns
returns c =
    let a = c.self.inside in
    let lease = c.args.lease.now in
    let it = found (padded (length a.links.items) a.region.items) a.links.items a.counts.items a.head a.free lease (subst (λ p. IsLive p lease) (sym c.self.view_is) c.requires.live) in
    c.read_chain.ensures
    ∙ ap (λ links. chain_bytes (padded (length links) c.deref.result.now) (chain links lease.first lease.blocks)) c.deref-2.ensures.value
    ∙ ap (λ region. chain_bytes (padded (length a.links.items) region) (chain a.links.items lease.first lease.blocks)) c.deref.ensures.value
    ∙ sym (ap bytes_of (at_found (padded (length a.links.items) a.region.items) a.links.items a.counts.items a.head a.free c.self.invariant.fields lease it))
    ∙ ap (λ p. bytes_at p lease.first) c.self.view_is
