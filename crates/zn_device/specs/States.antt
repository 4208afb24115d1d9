-- The state of a device, and what a command, or commands one after another, make of it. (own)
use Rattle.std.specs.Prelude.{◌≡◌, ℕ, Bool, true, not, List, ◌∷◌, ◌++◌, Ok, Err, IsErrOf}
use Rattle.zn_truth.specs.declared.DevError.{DevError}
use Rattle.zn_truth.specs.declared.DevError.TheVariants.{Broken}
use Rattle.zn_truth.specs.Orders.{Order, Reply}
use Rattle.zn_truth.specs.World.{World, issue}
use Rattle.zn_truth.specs.OrderLists.{issue_all}
use Rattle.zn_truth.specs.Obeying.{is_answered, IsAnswered, Obeys, ObeysAll}
use Rattle.zn_device.specs.Causes.{DeviceCause, IsMemoryFree, is_refused}

-- A device: what it is, whether a command answered `Broken` or `Memory`, how many faults there were, how often
-- what it is kept in failed, whether its commands take memory, and whether it keeps its zones' conditions itself.
pub record DeviceState : Type 0 where
  pub world : World
  pub spoilt : Bool
  pub faults : ℕ
  pub breaks : ℕ
  pub takes_memory : Bool
  pub keeps_conditions : Bool

-- Which answers have which causes, whatever was asked. `Broken` comes only where the power is on before and
-- after.
pub record Caused (result : Reply) (old new : DeviceState) : Type 0 where
  pub spoilt : new.spoilt ≡ not (is_answered result)
  pub cause : DeviceCause result old.faults new.faults old.breaks new.breaks
  pub memory : IsMemoryFree old.takes_memory result
  pub same : new.takes_memory ≡ old.takes_memory
  pub keeps : new.keeps_conditions ≡ old.keeps_conditions
  pub powered : IsErrOf result Broken → old.world.powered ≡ true
  pub still_powered : IsErrOf result Broken → new.world.powered ≡ true
  pub no_fault : IsAnswered result → new.world.pending ≡ old.world.pending → new.faults ≡ old.faults

-- What a command owes: its answer and what it leaves, and their causes. A device that keeps its conditions itself
-- doesn't break where the order is refused: so it answers that refusal, or want of memory.
pub record Commanded (order : Order) (result : Reply) (old new : DeviceState) : Type 0 where
  pub obeys : Obeys order result old.world new.world
  pub caused : Caused result old new
  pub named : old.keeps_conditions ≡ true → is_refused (issue old.world order).reply ≡ true → IsErrOf result Broken → ⊥

-- Where commands one after another stopped: all before is done and has changed no count, the answer is that of the
-- next, and what that leaves is what is left: no other follows it.
pub record StoppedAt (orders : List Order) (result : Reply) (old new : DeviceState) : Type 0 where
  pub before : List Order
  pub order : Order
  pub after : List Order
  pub parts : orders ≡ before ++ order ∷ after
  pub middle : DeviceState
  pub done : (issue_all old.world before).reply ≡ Ok tt
  pub reached : middle.world ≡ (issue_all old.world before).world
  pub faults : middle.faults ≡ old.faults
  pub breaks : middle.breaks ≡ old.breaks
  pub takes_memory : middle.takes_memory ≡ old.takes_memory
  pub keeps_conditions : middle.keeps_conditions ≡ old.keeps_conditions
  pub last : Commanded order result middle new

-- the same of commands one after another, up to the first that fails, whatever it answers
pub record Ordered (orders : List Order) (result : Reply) (old new : DeviceState) : Type 0 where
  pub obeys : ObeysAll orders result old.world new.world
  pub caused : Caused result old new
  pub stopped : (error : DevError) → result ≡ Err error → StoppedAt orders result old new
