-- Laws over the definitions. (own)
use Rattle.std.specs.Prelude.{◌≡◌, ℕ, ◌^◌, ◌<◌, ◌≤◌, ◌↔◌, List, length, Some}
use Rattle.std.specs.Fmt.{decimal}
use Rattle.zn_base.specs.Decimals.{number_in}
use Rattle.zn_base.specs.Runs.{Run, bytes_of, runs_of}

-- The runs of bytes stand for them, and no fewer runs do.
pub record RunsAreFewest : Type 0 where
  pub same : (bytes : List ℕ) → bytes_of (runs_of bytes) ≡ bytes
  pub fewest : (runs : List Run) → length (runs_of (bytes_of runs)) ≤ length runs

-- the words that are read as a number are its decimal digits, where it isn't above the limit
abbrev pub NumbersAreDecimal : Type 0
NumbersAreDecimal = (max n : ℕ) (word : List ℕ) → max < 2 ^ 64
    → (number_in max word ≡ Some n) ↔ ((word ≡ decimal n) × (n ≤ max))
