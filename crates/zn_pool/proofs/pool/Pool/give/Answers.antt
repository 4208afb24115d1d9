use Rattle.std.proofs.Common.{◌≡◌, suc, ◌-◌, ◌+◌, length, set, sym, ap, ◌∙◌, subst, arith}
use Rattle.std.proofs.lemmas.List.{length-set}
use Rattle.zn_pool.specs.PoolState.{IsLive, given}
use Rattle.zn_pool.specs.Chains.{chain, block_after, AreBelow, padded, IsRegion}
use Rattle.zn_pool.specs.Kept.{pool_of, AreKept}
use Rattle.zn_pool.proofs.KeptLaws.{found}
use Rattle.zn_pool.proofs.Moves.{below_last, last_within, pool-given, kept-given, fits-given}
use Rattle.zn_pool.proofs.pool.Pool.give.Goals as goal

pub overflow_sub-blocks : goal.overflow_sub-blocks
overflow_sub-blocks c =
    let a = c.self.inside in
    (found (padded (length a.links.items) a.region.items) a.links.items a.counts.items a.head a.free c.args.lease (subst (λ p. IsLive p c.args.lease) (sym c.self.view_is) c.requires)).some

pub block_after-last-requires : goal.block_after-last-requires
block_after-last-requires c =
    let a = c.self.inside in
    let lease = c.args.lease in
    let it = found (padded (length a.links.items) a.region.items) a.links.items a.counts.items a.head a.free lease (subst (λ p. IsLive p lease) (sym c.self.view_is) c.requires) in
    let size : lease.blocks ≡ suc (lease.blocks - 1) = omega (arith, it.some) in
    let below = below_last (padded (length a.links.items) a.region.items) a.links.items a.counts.items a.head a.free c.self.invariant.fields lease it (lease.blocks - 1) size in
    subst (λ links. AreBelow (length links) (chain links lease.first (lease.blocks - 1))) (sym c.deref.ensures.value) (subst (λ n. AreBelow n (chain a.links.items lease.first (lease.blocks - 1))) (sym c.self.invariant.fields.linked) below)

pub index_mut-requires : goal.index_mut-requires
index_mut-requires c =
    let a = c.self.inside in
    let lease = c.args.lease in
    let it = found (padded (length a.links.items) a.region.items) a.links.items a.counts.items a.head a.free lease (subst (λ p. IsLive p lease) (sym c.self.view_is) c.requires) in
    let size : lease.blocks ≡ suc (lease.blocks - 1) = omega (arith, it.some) in
    let last : c.block_after-last.result ≡ block_after a.links.items lease.first (lease.blocks - 1) = c.block_after-last.ensures ∙ ap (λ links. block_after links lease.first (lease.blocks - 1)) c.deref.ensures.value in
    omega (arith, last, last_within (padded (length a.links.items) a.region.items) a.links.items a.counts.items a.head a.free c.self.invariant.fields lease it (lease.blocks - 1) size, c.self.invariant.fields.linked, a.links.ok.0)

pub overflow_add-self : goal.overflow_add-self
overflow_add-self c =
    let a = c.self.inside in
    let lease = c.args.lease in
    let it = found (padded (length a.links.items) a.region.items) a.links.items a.counts.items a.head a.free lease (subst (λ p. IsLive p lease) (sym c.self.view_is) c.requires) in
    let size : lease.blocks ≡ suc (lease.blocks - 1) = omega (arith, it.some) in
    omega (arith, fits-given (padded (length a.links.items) a.region.items) a.links.items a.counts.items a.head a.free c.self.invariant.fields lease it (lease.blocks - 1) size, c.self.invariant.fields.few)

pub index_mut-requires-2 : goal.index_mut-requires-2
index_mut-requires-2 c =
    let a = c.self.inside in
    let it = found (padded (length a.links.items) a.region.items) a.links.items a.counts.items a.head a.free c.args.lease (subst (λ p. IsLive p c.args.lease) (sym c.self.view_is) c.requires) in
    omega (arith, it.within, a.counts.ok.0)

pub invariant_of-self : goal.invariant_of-self
invariant_of-self c =
    let a = c.self.inside in
    let region = padded (length a.links.items) a.region.items in
    let lease = c.args.lease in
    let it = found region a.links.items a.counts.items a.head a.free lease (subst (λ p. IsLive p lease) (sym c.self.view_is) c.requires) in
    let size : lease.blocks ≡ suc (lease.blocks - 1) = omega (arith, it.some) in
    let last : c.block_after-last.result ≡ block_after a.links.items lease.first (lease.blocks - 1) = c.block_after-last.ensures ∙ ap (λ links. block_after links lease.first (lease.blocks - 1)) c.deref.ensures.value in
    let links = set a.links.items c.block_after-last.result a.head in
    let count : length links ≡ length a.links.items = length-set a.links.items c.block_after-last.result a.head in
    record {
      region = subst (λ n. IsRegion n a.region) (sym count) c.self.invariant.region;
      fields = subst (λ n. AreKept (padded n a.region.items) links (set a.counts.items lease.first 0) lease.first (a.free + lease.blocks)) (sym count)
          (subst (λ at. AreKept region (set a.links.items at a.head) (set a.counts.items lease.first 0) lease.first (a.free + lease.blocks)) (sym last)
          (kept-given region a.links.items a.counts.items a.head a.free c.self.invariant.fields lease it (lease.blocks - 1) size));
    }

pub returns : goal.returns
returns c =
    let a = c.self.inside in
    let region = padded (length a.links.items) a.region.items in
    let lease = c.args.lease in
    let it = found region a.links.items a.counts.items a.head a.free lease (subst (λ p. IsLive p lease) (sym c.self.view_is) c.requires) in
    let size : lease.blocks ≡ suc (lease.blocks - 1) = omega (arith, it.some) in
    let last : c.block_after-last.result ≡ block_after a.links.items lease.first (lease.blocks - 1) = c.block_after-last.ensures ∙ ap (λ links. block_after links lease.first (lease.blocks - 1)) c.deref.ensures.value in
    let links = set a.links.items c.block_after-last.result a.head in
    ap (λ n. pool_of (padded n a.region.items) links (set a.counts.items lease.first 0) lease.first (a.free + lease.blocks)) (length-set a.links.items c.block_after-last.result a.head)
    ∙ ap (λ at. pool_of region (set a.links.items at a.head) (set a.counts.items lease.first 0) lease.first (a.free + lease.blocks)) last
    ∙ pool-given region a.links.items a.counts.items a.head a.free c.self.invariant.fields lease it (lease.blocks - 1) size
    ∙ ap (λ p. given p lease.first) c.self.view_is
