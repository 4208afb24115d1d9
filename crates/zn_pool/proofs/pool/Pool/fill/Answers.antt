use Rattle.std.proofs.Common.{◌≡◌, length, sym, ap, ◌∙◌, subst}
use Rattle.zn_pool.specs.PoolState.{IsLive, filled}
use Rattle.zn_pool.specs.Chains.{chain, AreBelow, chain_filled, padded, IsRegion}
use Rattle.zn_pool.specs.Kept.{pool_of, AreKept}
use Rattle.zn_pool.proofs.KeptLaws.{found}
use Rattle.zn_pool.proofs.Moves.{below_found, pool-filled, kept-filled}
use Rattle.zn_pool.proofs.pool.Pool.fill.Goals as goal

pub fill_chain-requires-clause-region : goal.fill_chain-requires-clause-region
fill_chain-requires-clause-region c =
    let a = c.self.inside in
    subst (λ links. IsRegion (length links) a.region) (sym c.deref.ensures.value) c.self.invariant.region

pub fill_chain-requires-clause-blocks : goal.fill_chain-requires-clause-blocks
fill_chain-requires-clause-blocks c =
    let a = c.self.inside in
    let region = padded (length a.links.items) a.region.items in
    let lease = c.args.lease.now in
    let it = found region a.links.items a.counts.items a.head a.free lease (subst (λ p. IsLive p lease) (sym c.self.view_is) c.requires.live) in
    let below = below_found region a.links.items a.counts.items a.head a.free c.self.invariant.fields lease it in
    subst (λ links. AreBelow (length links) (chain links lease.first lease.blocks)) (sym c.deref.ensures.value) (subst (λ n. AreBelow n (chain a.links.items lease.first lease.blocks)) (sym c.self.invariant.fields.linked) below)

pub invariant_of-self : goal.invariant_of-self
invariant_of-self c =
    let a = c.self.inside in
    let region = padded (length a.links.items) a.region.items in
    let lease = c.args.lease.now in
    let it = found region a.links.items a.counts.items a.head a.free lease (subst (λ p. IsLive p lease) (sym c.self.view_is) c.requires.live) in
    let now : padded (length a.links.items) c.fill_chain.new.region.items ≡ chain_filled region (chain a.links.items lease.first lease.blocks) c.args.bytes.now =
    subst (λ links. padded (length links) c.fill_chain.new.region.items ≡ chain_filled (padded (length links) a.region.items) (chain links lease.first lease.blocks) c.args.bytes.now) c.deref.ensures.value c.fill_chain.ensures.bytes in
    record {
      region = subst (λ links. IsRegion (length links) c.fill_chain.new.region) c.deref.ensures.value c.fill_chain.ensures.region;
      fields = subst (λ xs. AreKept xs a.links.items a.counts.items a.head a.free) (sym now) (kept-filled region a.links.items a.counts.items a.head a.free c.self.invariant.fields lease it c.args.bytes.now c.requires.long);
    }

pub returns : goal.returns
returns c =
    let a = c.self.inside in
    let region = padded (length a.links.items) a.region.items in
    let lease = c.args.lease.now in
    let it = found region a.links.items a.counts.items a.head a.free lease (subst (λ p. IsLive p lease) (sym c.self.view_is) c.requires.live) in
    let now : padded (length a.links.items) c.fill_chain.new.region.items ≡ chain_filled region (chain a.links.items lease.first lease.blocks) c.args.bytes.now =
    subst (λ links. padded (length links) c.fill_chain.new.region.items ≡ chain_filled (padded (length links) a.region.items) (chain links lease.first lease.blocks) c.args.bytes.now) c.deref.ensures.value c.fill_chain.ensures.bytes in
    ap (λ xs. pool_of xs a.links.items a.counts.items a.head a.free) now
    ∙ pool-filled region a.links.items a.counts.items a.head a.free c.self.invariant.fields lease it c.args.bytes.now c.requires.long
    ∙ ap (λ p. filled p lease.first c.args.bytes.now) c.self.view_is
