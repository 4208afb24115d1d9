-- Chains of blocks by links, and the bytes of a chain's blocks. No public clause cites this module.
use Rattle.std.specs.Prelude.{◌≡◌, ℕ, zero, suc, ◌-◌, ◌*◌, ◌/◌, ◌<◌, ◌≤◌, List, [], ◌∷◌, ◌++◌, length, take, drop, replicate, slice_index, vec_capacity, Vec}
use Rattle.std.specs.Global.{Global}
use Rattle.std.specs.List.{flat_map, AllByRecursion}
use Rattle.zn_truth.specs.declared.limits.TheConstants.{BLOCK_SIZE}
use Rattle.zn_truth.specs.Orders.{replaced}

-- so many blocks from one on, each the link of the one before
abbrev pub chain : List ℕ → ℕ → ℕ → List ℕ
chain links first zero = []
chain links first (suc n) = first ∷ chain links (slice_index links first) n

-- the block so many links behind one
abbrev pub block_after : List ℕ → ℕ → ℕ → ℕ
block_after links first zero = first
block_after links first (suc n) = block_after links (slice_index links first) n

-- each of the blocks is below a bound
abbrev pub AreBelow : ℕ → List ℕ → Type 0
AreBelow n blocks = AllByRecursion (λ b. b < n) blocks

-- the region of so many blocks, of which only the first bytes are kept: those behind them are zeros
abbrev pub padded : ℕ → List ℕ → List ℕ
padded count bytes = bytes ++ replicate (BLOCK_SIZE * count - length bytes) 0

-- the bytes are whole blocks
abbrev pub AreWhole : List ℕ → Type 0
AreWhole bytes = BLOCK_SIZE * (length bytes / BLOCK_SIZE) ≡ length bytes

-- The bytes that are kept of a region of so many blocks are whole blocks and no more, and all of them have room.
pub record IsRegion (count : ℕ) (region : Vec ℕ Global) : Type 0 where
  pub whole : AreWhole region.items
  pub short : length region.items ≤ BLOCK_SIZE * count
  pub room : BLOCK_SIZE * count ≤ vec_capacity region

-- the bytes of a block in a region
abbrev pub block_bytes : List ℕ → ℕ → List ℕ
block_bytes region b = take BLOCK_SIZE (drop (BLOCK_SIZE * b) region)

-- the bytes of blocks, one after another
abbrev pub chain_bytes : List ℕ → List ℕ → List ℕ
chain_bytes region blocks = flat_map (block_bytes region) blocks

-- bytes go into blocks of a region, block after block
abbrev pub chain_filled : List ℕ → List ℕ → List ℕ → List ℕ
chain_filled region [] bytes = region
chain_filled region (b ∷ blocks) bytes =
    chain_filled (replaced region (BLOCK_SIZE * b) (take BLOCK_SIZE bytes)) blocks (drop BLOCK_SIZE bytes)
