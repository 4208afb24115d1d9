use Rattle.std.proofs.Common.{◌≡◌, ℕ, ◌-◌, length, set, sym, ap, ◌∙◌, subst, arith, refl}
use Rattle.zn_pool.specs.declared.pool.Lease.{Lease}
use Rattle.zn_pool.specs.PoolState.{Takes}
use Rattle.zn_pool.specs.Chains.{chain, block_after, AreBelow, padded}
use Rattle.zn_pool.specs.Kept.{pool_of, AreKept}
use Rattle.zn_pool.proofs.ChainLaws.{length-chain}
use Rattle.zn_pool.proofs.Moves.{below_taken, head_within, kept-taken, takes}
use Rattle.zn_pool.proofs.pool.Pool.take.Goals as goal

pub returns-then-n-self-clause-short : goal.returns-then-n-self-clause-short
returns-then-n-self-clause-short c =
    let a = c.self.inside in
    let free = ap (λ p. length p.free) c.self.view_is in
    (λ _. omega (arith, c.if-n-self.true, free, length-chain a.links.items a.head a.free), λ _. refl)

pub block_after-self-inside-requires : goal.block_after-self-inside-requires
block_after-self-inside-requires c =
    let a = c.self.inside in
    let below = below_taken (padded (length a.links.items) a.region.items) a.links.items a.counts.items a.head a.free c.self.invariant.fields c.args.n c.requires c.if-n-self.false in
    let same : c.deref.result.now ≡ a.links.items = c.deref.ensures.value in
    subst (λ links. AreBelow (length links) (chain links a.head c.args.n)) (sym same) (subst (λ n. AreBelow n (chain a.links.items a.head c.args.n)) (sym c.self.invariant.fields.linked) below)

pub index_mut-requires : goal.index_mut-requires
index_mut-requires c =
    let a = c.self.inside in
    omega (arith, head_within (padded (length a.links.items) a.region.items) a.links.items a.counts.items a.head a.free c.self.invariant.fields (omega (arith, c.requires, c.if-n-self.false)), a.counts.ok.0)

pub invariant_of-self : goal.invariant_of-self
invariant_of-self c =
    let a = c.self.inside in
    let kept = kept-taken (padded (length a.links.items) a.region.items) a.links.items a.counts.items a.head a.free c.self.invariant.fields c.args.n c.requires c.if-n-self.false in
    let moved : c.block_after-self-inside.result ≡ block_after a.links.items a.head c.args.n = c.block_after-self-inside.ensures ∙ ap (λ links. block_after links a.head c.args.n) c.deref.ensures.value in
    record {
      region = c.self.invariant.region;
      fields = subst (λ head. AreKept (padded (length a.links.items) a.region.items) a.links.items (set a.counts.items a.head c.args.n) head (a.free - c.args.n)) (sym moved) kept;
    }

pub returns-clause-short : goal.returns-clause-short
returns-clause-short c =
    let a = c.self.inside in
    let free = ap (λ p. length p.free) c.self.view_is in
    (λ wrong. absurd cc, λ short. absurd (omega (arith, short, c.if-n-self.false, free, length-chain a.links.items a.head a.free)))

pub returns-clause-taken : goal.returns-clause-taken
returns-clause-taken c =
    let a = c.self.inside in
    let lease : Lease = record { first = a.head; blocks = c.args.n } in
    let new = λ (head : ℕ). pool_of (padded (length a.links.items) a.region.items) a.links.items (set a.counts.items a.head c.args.n) head (a.free - c.args.n) in
    let moved : c.block_after-self-inside.result ≡ block_after a.links.items a.head c.args.n = c.block_after-self-inside.ensures ∙ ap (λ links. block_after links a.head c.args.n) c.deref.ensures.value in
    let it = takes (padded (length a.links.items) a.region.items) a.links.items a.counts.items a.head a.free c.self.invariant.fields c.args.n c.requires c.if-n-self.false lease refl refl in
    subst (λ old. Takes old (new c.block_after-self-inside.result) c.args.n lease) c.self.view_is
    (subst (λ head. Takes (pool_of (padded (length a.links.items) a.region.items) a.links.items a.counts.items a.head a.free) (new head) c.args.n lease) (sym moved) it)
