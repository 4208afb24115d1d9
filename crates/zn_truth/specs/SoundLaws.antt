-- Laws on what keeps a truth sound: its zones as they should be, its counts within the limits. Each order, fault
-- and loss of power keeps that, and the geometry.
use Rattle.std.specs.Prelude.{◌≡◌, ℕ, List}
use Rattle.std.specs.List.{All}
use Rattle.zn_truth.specs.declared.Cond.{Cond}
use Rattle.zn_truth.specs.declared.FaultSpec.{FaultSpec}
use Rattle.zn_truth.specs.declared.LossSpec.{LossSpec}
use Rattle.zn_truth.specs.declared.Armed.{Armed}
use Rattle.zn_truth.specs.Truth.{IsSound}
use Rattle.zn_truth.specs.Orders.{Order}
use Rattle.zn_truth.specs.World.{World, geometry_of, issue}
use Rattle.zn_truth.specs.OrderLists.{issue_all}
use Rattle.zn_truth.specs.Obeying.{IsOrderFor}
use Rattle.zn_truth.specs.Inject.{inject, arm_loss, turn, lose_power, power_on}

-- An order leaves a sound truth sound, whether it is done, refused, met by a fault, or struck by the armed loss.
abbrev pub IssueKeepsSound : Type 0
IssueKeepsSound = (w : World) (order : Order) → IsSound w.truth → IsOrderFor (geometry_of w) order → IsSound (issue w order).world.truth

-- an order leaves the geometry as it was, whatever becomes of it
abbrev pub IssueKeepsGeometry : Type 0
IssueKeepsGeometry = (w : World) (order : Order) → geometry_of (issue w order).world ≡ geometry_of w

-- the same of orders one after another
abbrev pub IssueAllKeepsSound : Type 0
IssueAllKeepsSound = (w : World) (orders : List Order) → IsSound w.truth → All (IsOrderFor (geometry_of w)) orders → IsSound (issue_all w orders).world.truth

-- orders one after another leave the geometry as it was
abbrev pub IssueAllKeepsGeometry : Type 0
IssueAllKeepsGeometry = (w : World) (orders : List Order) → geometry_of (issue_all w orders).world ≡ geometry_of w

-- a turn of condition, refused or not
abbrev pub TurnKeepsSound : Type 0
TurnKeepsSound = (w : World) (z : ℕ) (to : Cond) → IsSound w.truth → IsSound (turn w z to).world.truth

-- a turn of condition, refused or not, leaves the geometry as it was
abbrev pub TurnKeepsGeometry : Type 0
TurnKeepsGeometry = (w : World) (z : ℕ) (to : Cond) → geometry_of (turn w z to).world ≡ geometry_of w

-- a loss of power at rest, refused or not
abbrev pub LosePowerKeepsSound : Type 0
LosePowerKeepsSound = (w : World) (loss : LossSpec) → IsSound w.truth → IsSound (lose_power w loss).world.truth

-- a loss of power at rest, refused or not, leaves the geometry as it was
abbrev pub LosePowerKeepsGeometry : Type 0
LosePowerKeepsGeometry = (w : World) (loss : LossSpec) → geometry_of (lose_power w loss).world ≡ geometry_of w

-- what the device holds and whether it has power stay as they were
pub record LeavesTruth (old new : World) : Type 0 where
  pub truth : new.truth ≡ old.truth
  pub powered : new.powered ≡ old.powered

-- a fault or a loss that is told to wait changes nothing yet
abbrev pub InjectKeepsTruth : Type 0
InjectKeepsTruth = (w : World) (fault : FaultSpec) → LeavesTruth w (inject w fault).world

-- a loss that is told to wait for a command leaves what is held, and the power
abbrev pub ArmLossKeepsTruth : Type 0
ArmLossKeepsTruth = (w : World) (armed : Armed) → LeavesTruth w (arm_loss w armed).world

-- the power comes back to what the device held
abbrev pub PowerOnKeepsTruth : Type 0
PowerOnKeepsTruth = (w : World) → (power_on w).truth ≡ w.truth

-- ---- telling

-- Nothing changes whether a device tells its bytes: no order, fault, turn or loss of power.
pub record NothingTells : Type 0 where
  pub issue : (w : World) (order : Order) → (issue w order).world.truth.told ≡ w.truth.told
  pub issue_all : (w : World) (orders : List Order) → (issue_all w orders).world.truth.told ≡ w.truth.told
  pub inject : (w : World) (fault : FaultSpec) → (inject w fault).world.truth.told ≡ w.truth.told
  pub turn : (w : World) (z : ℕ) (to : Cond) → (turn w z to).world.truth.told ≡ w.truth.told
  pub lose_power : (w : World) (loss : LossSpec) → (lose_power w loss).world.truth.told ≡ w.truth.told
  pub arm_loss : (w : World) (armed : Armed) → (arm_loss w armed).world.truth.told ≡ w.truth.told
