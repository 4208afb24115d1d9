-- What a script that is made from a seed comes to on a session. (own)
use Rattle.std.specs.Prelude.{◌⊎◌, ℕ, zero, suc, ◌+◌, ◌/◌, List, [], ◌∷◌, ◌++◌, Option, Some, None, Result, Ok, Err, codes}
use Rattle.zn_truth.specs.declared.limits.TheConstants.{BLOCK_SIZE}
use Rattle.zn_gen.specs.Churn.{churn_lines}
use Rattle.zn_lines.specs.Grammar.{reading_of}
use Rattle.zn_lines.specs.Lines.{Line}
use Rattle.zn_lines.specs.Session.{line_step}
use Rattle.zn_lines.specs.Table.{Table}
use Rattle.zn_lines.specs.Transcript.{last_line}
use Rattle.zn_lines.specs.declared.runs.Ending.{Ending}
use Rattle.zn_lines.specs.declared.runs.Ending.TheVariants.{BadLine}
use Rattle.zn_run.specs.Endings.{out_of_memory, host_fault}
use Rattle.zn_run.specs.Headline.{Closed}
use Rattle.zn_run.specs.States.{State, HasRisen}
use Rattle.zn_run.specs.declared.status.Status.{Status}
use Rattle.zn_run.specs.declared.status.Status.TheVariants.{Done, Script, HostFault, Memory}
use Rattle.zn_churn.specs.Tally.{count_in, nothing, counted, summary_line}
use Rattle.zn_churn.specs.declared.tally.Tally.{Tally}

-- ---- lines, over a device that tells its bytes

-- the reply of a line that is read so, and the table behind it
abbrev pub reply_by : Result (Option Line) ℕ → Table → List ℕ
reply_by (Ok None) table = []
reply_by (Ok (Some line)) table = (line_step [] table line).text
reply_by (Err column) table = []

abbrev pub table_by : Result (Option Line) ℕ → Table → Table
table_by (Ok None) table = table
table_by (Ok (Some line)) table = (line_step [] table line).table
table_by (Err column) table = table

-- the reply of a line
abbrev pub reply_of : Table → List ℕ → List ℕ
reply_of table line = reply_by (reading_of line) table

-- the table behind a line
abbrev pub table_of : Table → List ℕ → Table
table_of table line = table_by (reading_of line) table

-- what lines have come to: the table behind them, and what their replies add up to
pub record Through : Type 0 where
  pub table : Table
  pub tally : Tally

-- behind one more line
abbrev pub through_line : List ℕ → Through → Through
through_line line t = record { table = table_of t.table line; tally = counted t.tally line (reply_of t.table line) }

-- a line that is outside the grammar ends the script, and its number is told
abbrev pub unless_bad : Result (Option Line) ℕ → ℕ → Result Through Ending → Result Through Ending
unless_bad (Ok reading) number follows = follows
unless_bad (Err column) number follows = Err (BadLine number column)

-- what lines come to, one after another
unfoldable pub carried : List (List ℕ) → Through → Result Through Ending
carried [] t = Ok t
carried (line ∷ lines) t = unless_bad (reading_of line) (t.tally.lines + 1) (carried lines (through_line line t))

-- ---- the sizes in the end

-- the line that asks for the size of a handle's file
abbrev pub size_line : ℕ → List ℕ
size_line handle = codes "size " ++ (48 + handle) ∷ []

-- The blocks of the files of so many handles from this one on, as the lines tell that ask for their
-- sizes. No such line changes a file.
unfoldable pub blocks_told : Table → ℕ → ℕ → ℕ
blocks_told table zero handle = 0
blocks_told table (suc count) handle =
    count_in (reply_of table (size_line handle)) / BLOCK_SIZE
    + blocks_told (table_of table (size_line handle)) count (handle + 1)

-- ---- the whole

-- What a script comes to: what its replies add up to, and how many blocks the files have in the end.
pub record Outcome : Type 0 where
  pub tally : Tally
  pub blocks : ℕ

-- what all lines come to: their replies, and the blocks of the eight files behind them
abbrev pub outcome_of : Result Through Ending → Result Outcome Ending
outcome_of (Ok t) = Ok (record { tally = t.tally; blocks = blocks_told t.table 8 0 })
outcome_of (Err ending) = Err ending

-- on a session that begins with this table
abbrev pub churned : ℕ → ℕ → Table → Result Outcome Ending
churned seed steps table = outcome_of (carried (churn_lines seed steps) (record { table = table; tally = nothing }))

-- the status of a script that ends so, and the one line that is written
abbrev pub status_by : Result Outcome Ending → Status
status_by (Ok outcome) = Done
status_by (Err ending) = Script

abbrev pub line_by : ℕ → ℕ → Result Outcome Ending → List ℕ
line_by seed steps (Ok outcome) = summary_line seed steps outcome.tally outcome.blocks
line_by seed steps (Err ending) = last_line ending

-- the host failed in a line, and a number is told as that line's
pub record HostFailed (result : Status) (old new : State) : Type 0 where
  pub number : ℕ
  pub risen : HasRisen old.machine.breaks new.machine.breaks
  pub closed : Closed result HostFault (host_fault number) old.sink new.sink

-- What the script comes to is written, unless memory was wanting or the host failed, as is then told in its place.
pub record Churns (seed steps : ℕ) (result : Status) (old new : State) : Type 0 where
  pub means : let outcome = churned seed steps old.machine.table in
      Closed result (status_by outcome) (line_by seed steps outcome) old.sink new.sink
      ⊎ Closed result Memory out_of_memory old.sink new.sink
      ⊎ HostFailed result old new
