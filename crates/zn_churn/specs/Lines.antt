-- How far the lines of a script that is made from a seed have come. (own)
use Rattle.std.specs.Prelude.{◌≡◌, ℕ, true, false, List, Result, Ok, Err}
use Rattle.zn_lines.specs.Grammar.{reading_of}
use Rattle.zn_lines.specs.declared.runs.Ending.{Ending}
use Rattle.zn_lines.specs.declared.runs.Ending.TheVariants.{BadLine}
use Rattle.zn_run.specs.States.{MachineState, HasRisen}
use Rattle.zn_churn.specs.Churning.{reply_of, table_of}
use Rattle.zn_churn.specs.declared.churning.Halt.{Halt}
use Rattle.zn_churn.specs.declared.churning.Halt.TheVariants.{Ended, Broken, Starved}

-- the machine takes further lines, and its device tells its bytes
pub record GoesOn (machine : MachineState) : Type 0 where
  pub goes_on : machine.over ≡ false
  pub told : machine.table.world.truth.told ≡ true

-- a line is answered, and more may follow
pub record IsAnswered (line told : List ℕ) (old new : MachineState) : Type 0 where
  pub reads : (column : ℕ) → reading_of line ≡ Err column → ⊥
  pub reply : told ≡ reply_of old.table line
  pub table : new.table ≡ table_of old.table line
  pub breaks : new.breaks ≡ old.breaks
  pub goes_on : GoesOn new

-- what a halt says: the line with this number was outside the grammar, the host failed in it, or memory was wanting
abbrev pub AnswerMeans : Halt → ℕ → List ℕ → MachineState → MachineState → Type 0
AnswerMeans (Ended ending) number line old new =
    (column : ℕ) × (reading_of line ≡ Err column) × (ending ≡ BadLine number column)
AnswerMeans (Broken broken) number line old new = HasRisen old.breaks new.breaks
AnswerMeans Starved number line old new = Unit {0}

-- the same of lines that come to this: it is the end that they come to, or the host failed, or memory was wanting
abbrev pub HaltMeans : {X : Type 0} → Halt → Result X Ending → MachineState → MachineState → Type 0
HaltMeans (Ended ending) outcome old new = outcome ≡ Err ending
HaltMeans (Broken broken) outcome old new = HasRisen old.breaks new.breaks
HaltMeans Starved outcome old new = Unit {0}

-- all lines are carried out, and more may follow
pub record CameTo {X : Type 0} (came : X) (outcome : Result X Ending) (old new : MachineState) : Type 0 where
  pub comes : outcome ≡ Ok came
  pub breaks : new.breaks ≡ old.breaks
  pub goes_on : GoesOn new
