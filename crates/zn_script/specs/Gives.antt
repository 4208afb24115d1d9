-- That a function gives what a reading of words gives.
use Rattle.std.specs.Prelude.{◌≡◌, ℕ, Result, Ok, Err}

-- the reading gives the same: the value as `view` has it, or the same error
abbrev pub Gives : {X Y : Type 0} → (X → Y) → Result X ℕ → Result Y ℕ → Type 0
Gives view (Ok x) read = read ≡ Ok (view x)
Gives view (Err e) read = read ≡ Err e
