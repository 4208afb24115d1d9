-- What became of one line, by how it is read. (own)
use Rattle.std.specs.Prelude.{◌≡◌, ◌⊎◌, ◌+◌, ℕ, Bool, true, false, List, Option, Some, None, Result, Ok, Err}
use Rattle.zn_truth.specs.World.{geometry_of}
use Rattle.zn_lines.specs.Lines.{Line}
use Rattle.zn_lines.specs.Memory.{takes_itself}
use Rattle.zn_lines.specs.Session.{line_step}
use Rattle.zn_run.specs.declared.machine.Step.{Step}
use Rattle.zn_run.specs.declared.machine.Step.TheVariants.{Done, BadLine, Broken, SinkFault, Memory}
use Rattle.zn_run.specs.States.{State, HasRisen, Added, CutOff}

-- nothing has happened
pub record Unmoved (old new : State) : Type 0 where
  pub table : new.machine.table ≡ old.machine.table
  pub breaks : new.machine.breaks ≡ old.machine.breaks
  pub spoilt : new.machine.spoilt ≡ old.machine.spoilt
  pub sink : new.sink ≡ old.sink

-- the line's reply is written, and the table is the one after it
pub record Answered (line : Line) (old new : State) : Type 0 where
  -- what the line's read gave, which counts only where the device doesn't tell its bytes
  pub given : List ℕ
  pub table : new.machine.table ≡ (line_step given old.machine.table line).table
  pub breaks : new.machine.breaks ≡ old.machine.breaks
  pub spoilt : new.machine.spoilt ≡ old.machine.spoilt
  pub reply : Added (line_step given old.machine.table line).text old.sink new.sink

-- an empty line and a comment change nothing, and a line of the grammar is answered
abbrev pub DoneBy : Result (Option Line) ℕ → State → State → Type 0
DoneBy (Ok None) old new = Unmoved old new
DoneBy (Ok (Some line)) old new = Answered line old new
DoneBy (Err column) old new = ⊥

-- what is due for the line is done, and the machine takes further lines
pub record LineDone (reading : Result (Option Line) ℕ) (old new : State) : Type 0 where
  pub means : DoneBy reading old new
  pub goes_on : new.machine.over ≡ false

-- the line is outside the grammar at this column, and nothing has happened
pub record LineBad (column : ℕ) (reading : Result (Option Line) ℕ) (old new : State) : Type 0 where
  pub reads : reading ≡ Err column
  pub unmoved : Unmoved old new
  pub goes_on : new.machine.over ≡ false

-- What a broken line leaves: the device has the zones that it had, and its power was on before and is after. Only where
-- its lines take memory want of that may have followed the break, and nothing is known of the power.
pub record BrokenOff (old new : State) : Type 0 where
  pub geometry : geometry_of new.machine.table.world ≡ geometry_of old.machine.table.world
  pub powered : old.machine.takes_memory ≡ false → old.machine.table.world.powered ≡ true
  pub still_powered : old.machine.takes_memory ≡ false → new.machine.table.world.powered ≡ true

-- what the machine works on has failed, and nothing is written
pub record LineBroken (reading : Result (Option Line) ℕ) (old new : State) : Type 0 where
  pub line : Line
  pub reads : reading ≡ Ok (Some line)
  pub risen : HasRisen old.machine.breaks new.machine.breaks
  pub leaves : BrokenOff old new
  pub sink : new.sink ≡ old.sink
  pub over : new.machine.over ≡ true

-- the sink failed within the line's reply, and the table is the one after the line
pub record LineCut (reading : Result (Option Line) ℕ) (old new : State) : Type 0 where
  pub line : Line
  pub reads : reading ≡ Ok (Some line)
  pub given : List ℕ
  pub table : new.machine.table ≡ (line_step given old.machine.table line).table
  pub breaks : new.machine.breaks ≡ old.machine.breaks
  pub spoilt : new.machine.spoilt ≡ old.machine.spoilt
  pub reply : CutOff (line_step given old.machine.table line).text old.sink new.sink
  pub over : new.machine.over ≡ true

-- only there may memory be wanting for a line: the machine's lines take some, or this line takes some itself
abbrev pub MayStarve : Bool → Line → Type 0
MayStarve takes_memory line = (takes_memory ≡ true) ⊎ (takes_itself line ≡ true)

-- there was no memory for the line, where it may be wanting, and nothing is written
pub record LineStarved (reading : Result (Option Line) ℕ) (old new : State) : Type 0 where
  pub line : Line
  pub reads : reading ≡ Ok (Some line)
  pub takes : MayStarve old.machine.takes_memory line
  pub breaks : new.machine.breaks ≡ old.machine.breaks
  pub sink : new.sink ≡ old.sink
  pub over : new.machine.over ≡ true

-- what is so, by what became of the line
abbrev pub StepMeans : Step → Result (Option Line) ℕ → State → State → Type 0
StepMeans Done reading old new = LineDone reading old new
StepMeans (BadLine column) reading old new = LineBad column reading old new
StepMeans Broken reading old new = LineBroken reading old new
StepMeans SinkFault reading old new = LineCut reading old new
StepMeans Memory reading old new = LineStarved reading old new

-- One line, read so: what became of it, and that it is one line more.
pub record Stepped (result : Step) (reading : Result (Option Line) ℕ) (old new : State) : Type 0 where
  pub means : StepMeans result reading old new
  pub counted : new.machine.steps ≡ old.machine.steps + 1
  pub memory : new.machine.takes_memory ≡ old.machine.takes_memory
