use Rattle.std.proofs.Common.{◌<◌, length, sym, ◌∙◌, subst, arith}
use Rattle.std.proofs.lemmas.Bool.{false≢true, eqb-true, eq-eqb}
use Rattle.std.proofs.lemmas.List.{get_or_read}
use Rattle.zn_pool.specs.PoolState.{IsLive}
use Rattle.zn_pool.specs.Chains.{padded}
use Rattle.zn_pool.proofs.KeptLaws.{IsFound, found, live_of}
use Rattle.zn_pool.proofs.pool.Pool.is_live.Goals as goal
use Rattle.zn_pool.proofs.pool.Pool.is_live.Goals.{then-lease-eq0-via-then-lease-eq0, then-lease-eq0-via-else-lease-eq0+then-first-len}

pub returns-then-lease-eq0 : goal.returns-then-lease-eq0
returns-then-lease-eq0 c =
    let a = c.self.inside in
    let lease = c.args.lease.now in (
      λ wrong. absurd (false≢true wrong),
      λ live.
          let it = found (padded (length a.links.items) a.region.items) a.links.items a.counts.items a.head a.free lease (subst (λ p. IsLive p lease) (sym c.self.view_is) live) in
          absurd (elim c.then-lease-eq0.branch [
            | then-lease-eq0-via-then-lease-eq0 w ↦ omega (arith, it.some)
            | then-lease-eq0-via-else-lease-eq0+then-first-len w ↦ omega (arith, it.within, a.counts.ok.0)
          ]),
    )

pub returns : goal.returns
returns c =
    let a = c.self.inside in
    let lease = c.args.lease.now in
    let within : lease.first < length a.counts.items = omega (arith, a.counts.ok.0) in
    let read = get_or_read a.counts.items lease.first c.index.result.now within c.index.ensures 0 in (
      λ same.
          let count = sym read ∙ eqb-true c.index.result.now lease.blocks same in
          let it : IsFound (padded (length a.links.items) a.region.items) a.links.items a.counts.items lease = record { within = within; some = omega arith; count = count } in
          subst (λ p. IsLive p lease) c.self.view_is (live_of (padded (length a.links.items) a.region.items) a.links.items a.counts.items a.head a.free lease it),
      λ live.
          let it = found (padded (length a.links.items) a.region.items) a.links.items a.counts.items a.head a.free lease (subst (λ p. IsLive p lease) (sym c.self.view_is) live) in
          eq-eqb c.index.result.now lease.blocks (read ∙ it.count),
    )
