-- Over a device that tells its bytes, what was given to reads doesn't count. (own)
use Rattle.std.specs.Prelude.{◌≡◌, ℕ, true, List, []}
use Rattle.zn_lines.specs.declared.runs.Tail.{Tail}
use Rattle.zn_lines.specs.Lines.{Line}
use Rattle.zn_lines.specs.Table.{Table}
use Rattle.zn_lines.specs.Session.{line_step}
use Rattle.zn_lines.specs.Transcript.{transcript_at}

-- Over a device that tells its bytes: a line is the same whatever was given, and the device tells its bytes after it.
pub record ToldLines : Type 0 where
  pub same : (given : List ℕ) (table : Table) (line : Line) → table.world.truth.told ≡ true → line_step given table line ≡ line_step [] table line
  pub still : (given : List ℕ) (table : Table) (line : Line) → (line_step given table line).table.world.truth.told ≡ table.world.truth.told

-- and so is a whole run
abbrev pub ToldTranscripts : Type 0
ToldTranscripts =
    (givens : List (List ℕ)) (tail : Tail) (table : Table) (n : ℕ) (bytes : List ℕ) → table.world.truth.told ≡ true
    → transcript_at givens tail table n bytes ≡ transcript_at [] tail table n bytes
