-- Numbers in blocks, as they are read.
use Rattle.std.proofs.Common.{◌≡◌, ℕ, ◌-◌, ◌≤◌, List, length, take, drop, ap, ◌∙◌, arith}
use Rattle.std.specs.Int.{w32, w64, from_le_bytes}
use Rattle.std.proofs.lemmas.List.{get_or-take}
use Rattle.std.proofs.lemmas.Slice.{between_to_end}
use Rattle.byteorder.specs.Endian.{little_number}
use Rattle.zn_model.specs.SuperBlock.{number_at, features_of}

four_bytes : (bytes : List ℕ) → little_number 4 bytes ≡ from_le_bytes w32 (take 4 bytes)
four_bytes bytes =
    omega (arith, get_or-take 4 bytes 0 0 (omega arith), get_or-take 4 bytes 1 0 (omega arith), get_or-take 4 bytes 2 0 (omega arith), get_or-take 4 bytes 3 0 (omega arith))

eight_bytes : (bytes : List ℕ) → little_number 8 bytes ≡ from_le_bytes w64 (take 8 bytes)
eight_bytes bytes =
    omega (arith, get_or-take 8 bytes 0 0 (omega arith), get_or-take 8 bytes 1 0 (omega arith), get_or-take 8 bytes 2 0 (omega arith), get_or-take 8 bytes 3 0 (omega arith), get_or-take 8 bytes 4 0 (omega arith), get_or-take 8 bytes 5 0 (omega arith), get_or-take 8 bytes 6 0 (omega arith), get_or-take 8 bytes 7 0 (omega arith))

-- a part of a block up to its end
whole : (block : List ℕ) (at n : ℕ) → length block ≤ n → take (n - at) (drop at block) ≡ drop at block
whole block at n h = between_to_end block at n h

pub number_read : (block : List ℕ) (at n : ℕ) → length block ≤ n → little_number 4 (take (n - at) (drop at block)) ≡ number_at block at
unfolding number_at
number_read block at n h = ap (little_number 4) (whole block at n h) ∙ four_bytes (drop at block)

pub features_read : (block : List ℕ) (n : ℕ) → length block ≤ n → little_number 8 (take (n - 88) (drop 88 block)) ≡ features_of block
unfolding features_of
features_read block n h = ap (little_number 8) (whole block 88 n h) ∙ eight_bytes (drop 88 block)
