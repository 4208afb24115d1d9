-- Marks on the numbers below a bound, as the bits of words of 64. (own)
use Rattle.std.specs.Prelude.{◌≡◌, ◌<◌, ◌≤◌, ℕ, ◌*◌, ◌/◌, ◌%◌, Bool, ◌==◌, List, length, map, slice_index_or}
use Rattle.std.specs.Prelude.{if◌then◌else◌}
use Rattle.std.specs.List.{range_with_len}
use Rattle.std.specs.Int.{bit_at}

-- the bit of a number: 1 where it is marked
abbrev pub mark_at : List ℕ → ℕ → ℕ
mark_at lanes number = bit_at (slice_index_or lanes (number / 64) 0) (number % 64)

-- which of so many numbers are marked
abbrev pub marks_in : List ℕ → ℕ → List Bool
marks_in lanes bound = map (λ number. mark_at lanes number == 1) (range_with_len 0 bound)

-- The lanes have room for the numbers, nothing is marked from the bound on, and the summary has a bit for each
-- lane that has a mark.
pub record IsSummed (bound summary : ℕ) (lanes : List ℕ) : Type 0 where
  pub room : bound ≤ 64 * length lanes
  pub count : length lanes ≤ 64
  pub clear : (number : ℕ) → bound ≤ number → mark_at lanes number ≡ 0
  pub summed : (lane : ℕ) → lane < 64 → bit_at summary lane ≡ (if slice_index_or lanes lane 0 == 0 then 0 else 1)
