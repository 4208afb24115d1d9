-- What the fields of a pool stand for, and what is true of them. No public clause cites this module.
use Rattle.std.specs.Prelude.{◌≡◌, ℕ, zero, suc, ◌*◌, ◌<◌, ◌^◌, List, ◌++◌, length, map, slice_index, Option, Some, None}
use Rattle.std.specs.List.{range_with_len}
use Rattle.std.specs.List.Sorted.{IsPermutation}
use Rattle.zn_truth.specs.declared.limits.TheConstants.{BLOCK_SIZE}
use Rattle.zn_pool.specs.declared.pool.Pool.TheInside.{Inside}
use Rattle.zn_pool.specs.PoolState.{PoolState, LeaseState, leased}
use Rattle.zn_pool.specs.Chains.{chain, chain_bytes, padded, IsRegion}

-- the lease of so many blocks from one on; where they are none, there is no lease
abbrev pub lease_of : List ℕ → List ℕ → ℕ → ℕ → Option LeaseState
lease_of region links first zero = None
lease_of region links first (suc n) =
    Some (record { blocks = chain links first (suc n); bytes = chain_bytes region (chain links first (suc n)) })

-- for each block, the lease that starts there
abbrev pub leases_of : List ℕ → List ℕ → List ℕ → List (Option LeaseState)
leases_of region links counts =
    map (λ first. lease_of region links first (slice_index counts first)) (range_with_len 0 (length counts))

-- the pool of a region, with its links, the counts of its leases, the first free block and how many are free
abbrev pub pool_of : List ℕ → List ℕ → List ℕ → ℕ → ℕ → PoolState
pool_of region links counts head free = record { free = chain links head free; live = leases_of region links counts }

-- what contracts see of the fields
abbrev pub seen_of : Inside → PoolState
seen_of a = pool_of (padded (length a.links.items) a.region.items) a.links.items a.counts.items a.head a.free

-- There are as many links and counts as blocks in the region, and the free blocks and those of the leases are
-- all blocks, each once.
pub record AreKept (region links counts : List ℕ) (head free : ℕ) : Type 0 where
  pub linked : length links ≡ length counts
  pub whole : length region ≡ BLOCK_SIZE * length counts
  pub few : length counts < 2 ^ 32
  pub parted : IsPermutation (range_with_len 0 (length counts)) (chain links head free ++ leased (pool_of region links counts head free))

-- so it is with the fields, where the region counts as long as all blocks
pub record IsKept (a : Inside) : Type 0 where
  pub region : IsRegion (length a.links.items) a.region
  pub fields : AreKept (padded (length a.links.items) a.region.items) a.links.items a.counts.items a.head a.free
