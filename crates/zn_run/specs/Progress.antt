-- How far a run has come. (own)
use Rattle.std.specs.Prelude.{◌≡◌, ◌≤◌, ◌+◌, ℕ, false, List, ◌∷◌, ◌++◌, length, take, drop, Some, Ok}
use Rattle.std.specs.List.{before_first}
use Rattle.zn_base.specs.Told.{IsFront}
use Rattle.zn_lines.specs.declared.runs.Tail.{Tail}
use Rattle.zn_lines.specs.declared.runs.Ending.{Ending}
use Rattle.zn_lines.specs.Lines.{Line}
use Rattle.zn_lines.specs.Grammar.{reading_of}
use Rattle.zn_lines.specs.Table.{Table}
use Rattle.zn_lines.specs.Session.{line_step}
use Rattle.zn_lines.specs.Transcript.{stop, with_text, transcript_at, is_newline, OneLine}
use Rattle.zn_run.specs.States.{State, Added}
use Rattle.zn_run.specs.Statuses.{IsScriptFault, line_of}
use Rattle.zn_run.specs.Steps.{Unmoved, Stepped}
use Rattle.zn_run.specs.declared.lines.Halt.{Halt}
use Rattle.zn_run.specs.declared.lines.Halt.TheVariants.{Rest, Ended, Broken, SinkFault, Memory}
use Rattle.zn_run.specs.declared.machine.Step.{Step}
use Rattle.zn_run.specs.declared.machine.Step.TheVariants.{Broken as broken_step, SinkFault as cut_step, Memory as starved_step}

-- ---- lines that are carried out

-- These bytes are whole lines, the first of them with this number. Whatever follows them, their replies are written
-- first, and then goes on what follows, from this table and with this number.
pub record WholeLines (table0 : Table) (first : ℕ) (bytes out : List ℕ) (table : Table) (number : ℕ) : Type 0 where
  -- what the reads of these lines gave, a list for each
  pub givens : List (List ℕ)
  pub follows : (tail : Tail) (others : List (List ℕ)) (more : List ℕ)
      → transcript_at (givens ++ others) tail table0 first (bytes ++ more) ≡ with_text out (transcript_at others tail table number more)

-- These bytes are whole lines, and all are carried out, each by one step: their replies are written, no count of failures
-- rose, and the line behind them has this number.
pub record CarriedOut (old new : State) (first : ℕ) (bytes : List ℕ) (number : ℕ) : Type 0 where
  pub out : List ℕ
  pub lines : WholeLines old.machine.table first bytes out new.machine.table number
  pub replies : Added out old.sink new.sink
  pub breaks : new.machine.breaks ≡ old.machine.breaks
  pub spoilt : new.machine.spoilt ≡ old.machine.spoilt
  pub steps : new.machine.steps + first ≡ old.machine.steps + number
  pub memory : new.machine.takes_memory ≡ old.machine.takes_memory
  pub goes_on : new.machine.over ≡ false

-- How far a run came in a script: the whole lines before, which are carried out, the state that this left, and the rest,
-- with the number of its first line.
pub record Reached (old : State) (first : ℕ) (script : List ℕ) : Type 0 where
  pub before : List ℕ
  pub state : State
  pub number : ℕ
  pub rest : List ℕ
  pub cut : script ≡ before ++ rest
  pub lines : CarriedOut old state first before number

-- what stands before the first newline
abbrev pub first_line : List ℕ → List ℕ
first_line bytes = before_first is_newline bytes

-- the first line of the rest is read so, and its reply is due, whatever its read gives
pub record IsNext (tail : Tail) (table : Table) (number : ℕ) (rest : List ℕ) (line : Line) : Type 0 where
  pub reads : reading_of (first_line rest) ≡ Ok (Some line)
  pub due : (given : List ℕ) (others : List (List ℕ))
      → IsFront (line_step given table line).text (transcript_at (given ∷ others) tail table number rest).text

-- The line that was next where the run came to was given to the machine, and this became of it.
pub record StoppedBy (step : Step) (tail : Tail) (first : ℕ) (script : List ℕ) (old new : State) : Type 0 where
  pub reached : Reached old first script
  pub line : Line
  pub next : IsNext tail reached.state.machine.table reached.number reached.rest line
  pub stepped : Stepped step (reading_of (first_line reached.rest)) reached.state new

-- ---- the lines that a newline ends

-- all of them are carried out, and the rest begins here
pub record IsRest (old new : State) (first : ℕ) (script : List ℕ) (at number : ℕ) : Type 0 where
  pub within : at ≤ length script
  pub numbered : number ≤ first + at
  pub one : OneLine (drop at script)
  pub lines : CarriedOut old new first (take at script) number

-- the same, and the rest is short enough to be a line yet
pub record IsKeptRest (at number first : ℕ) (script : List ℕ) (old new : State) : Type 0 where
  pub rest : IsRest old new first script at number
  pub fits : length script ≤ at + 65536

-- one of them ended the run, and moved nothing
pub record IsEnded (ending : Ending) (tail : Tail) (first : ℕ) (script : List ℕ) (old new : State) : Type 0 where
  pub reached : Reached old first script
  pub is_fault : IsScriptFault ending
  pub numbered : line_of ending ≡ Some reached.number
  pub ends : (givens : List (List ℕ))
      → transcript_at givens tail reached.state.machine.table reached.number reached.rest ≡ stop reached.state.machine.table ending
  pub unmoved : Unmoved reached.state new

-- the host failed in the one with this number
pub record IsBroken (number : ℕ) (tail : Tail) (first : ℕ) (script : List ℕ) (old new : State) : Type 0 where
  pub stopped : StoppedBy broken_step tail first script old new
  pub numbered : number ≡ stopped.reached.number

-- what is so, by where and why the lines stopped, and whatever comes after the script
abbrev pub HaltMeans : Halt → Tail → ℕ → List ℕ → State → State → Type 0
HaltMeans (Rest at number) tail first script old new = IsRest old new first script at number
HaltMeans (Ended ending) tail first script old new = IsEnded ending tail first script old new
HaltMeans (Broken number) tail first script old new = IsBroken number tail first script old new
HaltMeans SinkFault tail first script old new = StoppedBy cut_step tail first script old new
HaltMeans Memory tail first script old new = StoppedBy starved_step tail first script old new
