-- What contracts see of a pool of blocks, and what its calls make of it. (own)
use Rattle.std.specs.Prelude.{◌≡◌, ℕ, ◌*◌, ◌<◌, ◌≤◌, List, [], ◌++◌, length, take, drop, replicate, slice_index, slice_index_or, slice_set, Option, Some, None}
use Rattle.std.specs.List.{flat_map, range_with_len}
use Rattle.std.specs.List.Sorted.{IsPermutation}
use Rattle.std.specs.Option.{option_map}
use Rattle.zn_truth.specs.declared.limits.TheConstants.{BLOCK_SIZE}
use Rattle.zn_pool.specs.declared.pool.Lease.{Lease}

-- The blocks of a live lease, in their order, and the bytes that they hold.
pub record LeaseState : Type 0 where
  pub blocks : List ℕ
  pub bytes : List ℕ

-- The free blocks, in the order in which they are taken, and, for each block, the live lease that starts there.
pub record PoolState : Type 0 where
  pub free : List ℕ
  pub live : List (Option LeaseState)

-- ---- leases

-- the number of a lease's first block
abbrev pub first_of : Lease → ℕ
first_of lease = lease.first

-- how many blocks a lease has
abbrev pub size_of : Lease → ℕ
size_of lease = lease.blocks

-- the live lease that starts at a block
abbrev pub lease_at : PoolState → ℕ → Option LeaseState
lease_at pool first = slice_index_or pool.live first None

-- the blocks of a lease that may be there
abbrev pub blocks_of : Option LeaseState → List ℕ
blocks_of None = []
blocks_of (Some lease) = lease.blocks

-- the bytes of a lease that may be there
abbrev pub bytes_of : Option LeaseState → List ℕ
bytes_of None = []
bytes_of (Some lease) = lease.bytes

-- how many blocks the live lease has that starts at a block
abbrev pub size_at : PoolState → ℕ → Option ℕ
size_at pool first = option_map (λ lease. length lease.blocks) (lease_at pool first)

-- the bytes of the live lease that starts at a block
abbrev pub bytes_at : PoolState → ℕ → List ℕ
bytes_at pool first = bytes_of (lease_at pool first)

-- The lease is live in the pool: a live lease starts at its first block and has as many blocks.
abbrev pub IsLive : PoolState → Lease → Type 0
IsLive pool lease = size_at pool (first_of lease) ≡ Some (size_of lease)

-- ---- the whole region

-- the blocks of all live leases
abbrev pub leased : PoolState → List ℕ
leased pool = flat_map blocks_of pool.live

-- a live lease starts at its first block, has at least one, and holds the bytes of as many blocks as it has
pub record IsLeaseAt (first : ℕ) (lease : LeaseState) : Type 0 where
  pub starts : slice_index lease.blocks 0 ≡ first
  pub some : 1 ≤ length lease.blocks
  pub bytes : length lease.bytes ≡ BLOCK_SIZE * length lease.blocks

-- The free blocks and those of the live leases are all blocks, each once.
pub record IsParted (pool : PoolState) : Type 0 where
  pub blocks : IsPermutation (range_with_len 0 (length pool.live)) (pool.free ++ leased pool)
  pub leases : (first : ℕ) (lease : LeaseState) → lease_at pool first ≡ Some lease → IsLeaseAt first lease

-- ---- what calls leave

-- so many blocks, all of them free, and no lease
unfoldable pub all_free : ℕ → PoolState
all_free blocks = record { free = range_with_len 0 blocks; live = replicate blocks None }

-- the first free block
abbrev pub first_free : PoolState → ℕ
first_free pool = slice_index pool.free 0

-- the first free blocks, so many, are a lease that holds these bytes
abbrev pub taken : PoolState → ℕ → List ℕ → PoolState
taken pool n bytes = record {
  free = drop n pool.free;
  live = slice_set pool.live (first_free pool) (Some (record { blocks = take n pool.free; bytes = bytes }));
}

-- A lease of so many blocks was taken: no lease started at its first block. What it holds may be anything.
pub record Takes (old new : PoolState) (n : ℕ) (lease : Lease) : Type 0 where
  pub first : first_of lease ≡ first_free old
  pub size : size_of lease ≡ n
  pub within : first_of lease < length old.live
  pub unused : lease_at old (first_of lease) ≡ None
  pub bytes : List ℕ
  pub long : length bytes ≡ BLOCK_SIZE * n
  pub taken : new ≡ taken old n bytes

-- the lease that starts at a block holds these bytes
abbrev pub filled : PoolState → ℕ → List ℕ → PoolState
filled pool first bytes = record pool {
  live = slice_set pool.live first (option_map (λ lease. let it : LeaseState = record lease { bytes = bytes } in it) (lease_at pool first));
}

-- the lease that starts at a block is live no longer, and its blocks are the first free ones
abbrev pub given : PoolState → ℕ → PoolState
given pool first = record {
  free = blocks_of (lease_at pool first) ++ pool.free;
  live = slice_set pool.live first None;
}
