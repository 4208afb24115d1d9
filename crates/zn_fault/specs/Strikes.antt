-- Which fault strikes a command, and what the command then makes of the device within. (own)
use Rattle.std.specs.Prelude.{◌≡◌, ℕ, ◌+◌, ◌≤◌, true, not, List, length, Some, None, Result, Ok, Err, IsErr, IsErrOf}
use Rattle.zn_base.specs.Causes.{Rose, one_more}
use Rattle.zn_truth.specs.declared.Command.{Command}
use Rattle.zn_truth.specs.declared.Span.{Span}
use Rattle.zn_truth.specs.declared.DevError.{DevError}
use Rattle.zn_truth.specs.declared.DevError.TheVariants.{Broken}
use Rattle.zn_truth.specs.declared.FaultSpec.{FaultSpec}
use Rattle.zn_truth.specs.Orders.{Order, Reply}
use Rattle.zn_truth.specs.World.{geometry_of, met, unmet, faulted}
use Rattle.zn_truth.specs.Obeying.{is_answered, IsAnswered}
use Rattle.zn_device.specs.Causes.{IsMemoryFree, is_refused}
use Rattle.zn_device.specs.States.{DeviceState}

-- no fault that waits strikes a command of this kind on these zones: none is used up, and none is counted
pub record Spares (command : Command) (zones : Span) (pending left : List FaultSpec) (faults now : ℕ) : Type 0 where
  pub met : None ≡ met command zones pending
  pub rest : left ≡ pending
  pub count : now ≡ faults

-- the first fault that such a command meets strikes it: it is used up, and counted
pub record Strikes (command : Command) (zones : Span) (fault : FaultSpec) (pending left : List FaultSpec) (faults now : ℕ) : Type 0 where
  pub met : Some fault ≡ met command zones pending
  pub rest : left ≡ unmet command zones pending
  pub fewer : length left + 1 ≡ length pending
  pub count : now ≡ one_more faults
  pub later : faults ≤ now

-- The answer, which is none of success, and what the device within then holds are those of the fault, unless that
-- device breaks or memory is wanting, and only then it is spoilt.
pub record Struck (order : Order) (fault : FaultSpec) (result : Reply) (old new : DeviceState) : Type 0 where
  pub reply : IsAnswered result → result ≡ (faulted old.world.truth order fault).reply
  pub truth : IsAnswered result → new.world.truth ≡ (faulted old.world.truth order fault).truth
  pub failed : IsErr result
  pub spoilt : new.spoilt ≡ not (is_answered result)
  pub no_fewer : old.breaks ≤ new.breaks
  pub broken : IsErrOf result Broken → Rose old.breaks new.breaks
  pub whole : IsAnswered result → new.breaks ≡ old.breaks
  pub memory : IsMemoryFree old.takes_memory result
  pub same : new.takes_memory ≡ old.takes_memory
  pub keeps : new.keeps_conditions ≡ old.keeps_conditions
  pub geometry : geometry_of new.world ≡ geometry_of old.world
  pub named : old.keeps_conditions ≡ true → is_refused (faulted old.world.truth order fault).reply ≡ true → IsErrOf result Broken → ⊥

-- the answer without the value that comes with a success
abbrev pub without_value : {T : Type 0} → Result T DevError → Reply
without_value (Ok value) = Ok tt
without_value (Err error) = Err error
