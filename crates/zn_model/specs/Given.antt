-- What a read gives: what the device holds, where it tells that, and else whatever the read gave. (own)
use Rattle.std.specs.Prelude.{ℕ, ◌*◌, List, ◌++◌, take, replicate, if◌then◌else◌}
use Rattle.zn_truth.specs.declared.limits.TheConstants.{BLOCK_SIZE}
use Rattle.zn_truth.specs.Truth.{Truth, bytes_at}

-- so many bytes: the first of these, with zeros behind them where they are fewer
abbrev pub fitted : ℕ → List ℕ → List ℕ
fitted n bytes = take n (bytes ++ replicate n 0)

-- The bytes that a read of so many gives. Where the device tells its bytes they are those that it holds. Else no
-- definition knows them, and they are those that were given to whoever asked.
abbrev pub told_or : Truth → ℕ → List ℕ → List ℕ → List ℕ
told_or t n held given = if t.told then held else fitted n given

-- blocks 0 and 1 of zone 0, as one read gives them
abbrev pub copies_in : Truth → List ℕ → List ℕ
copies_in t given = told_or t (2 * BLOCK_SIZE) (bytes_at t 0 0 2) given
