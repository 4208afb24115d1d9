-- What is left to write of the text of runs. (own)
use Rattle.std.specs.Prelude.{ℕ, zero, suc, List, drop}
use Rattle.std.specs.List.{flat_map}
use Rattle.zn_base.specs.Runs.{runs_of, plus_run, data_text}

-- the text of the runs from a place on, each behind a plus sign where it isn't the first of all
abbrev pub text_from : List ℕ → ℕ → List ℕ
text_from bytes zero = data_text bytes
text_from bytes (suc at) = flat_map plus_run (runs_of (drop (suc at) bytes))
