-- Laws of losses of power.
use Rattle.std.specs.Prelude.{◌≡◌, Bool, true, Some, Ok, Err, IsTrue}
use Rattle.zn_truth.specs.declared.LossSpec.{LossSpec}
use Rattle.zn_truth.specs.declared.Armed.{Armed}
use Rattle.zn_truth.specs.declared.DevError.TheVariants.{PowerLost}
use Rattle.zn_truth.specs.Truth.{Truth, IsSound, geometry}
use Rattle.zn_truth.specs.Orders.{Order}
use Rattle.zn_truth.specs.Power.{lost, during}
use Rattle.zn_truth.specs.Loss.{IsLossOf, IsLossInside}
use Rattle.zn_truth.specs.World.{World, issue, geometry_of, meets, command_of, zones_of}
use Rattle.zn_truth.specs.Inject.{lose_power}
use Rattle.zn_truth.specs.Obeying.{IsOrderFor}

-- what a scripted loss leaves is a loss of what was
abbrev pub LostIsLoss : Type 0
LostIsLoss = (t : Truth) (loss : LossSpec) → IsSound t → IsLossOf t (lost t loss)

-- and so is what is left where the power is made to go
abbrev pub LosePowerIsLoss : Type 0
LosePowerIsLoss = (w : World) (loss : LossSpec) → IsSound w.truth → (lose_power w loss).reply ≡ Ok tt → IsLossOf w.truth (lose_power w loss).world.truth

-- A scripted loss inside an order is one that may strike there, whether or not the order is carried out
-- before it.
abbrev pub LossInsideOrder : Type 0
LossInsideOrder = (t : Truth) (order : Order) (carried_out : Bool) (loss : LossSpec) → IsSound t → IsOrderFor (geometry t) order → IsLossInside t order (lost (during t order carried_out loss) loss)

-- an order that a loss waits for is told that the power went
abbrev pub ArmedLossStrikes : Type 0
ArmedLossStrikes = (w : World) (order : Order) (armed : Armed) → w.powered ≡ true → w.armed ≡ Some armed → IsTrue (meets (command_of order) (zones_of order) armed.command armed.zone.0) → (issue w order).reply ≡ Err PowerLost

-- and what it leaves is a loss inside the order
abbrev pub ArmedLossIsInside : Type 0
ArmedLossIsInside = (w : World) (order : Order) (armed : Armed) → IsSound w.truth → IsOrderFor (geometry_of w) order → w.powered ≡ true → w.armed ≡ Some armed
    → IsTrue (meets (command_of order) (zones_of order) armed.command armed.zone.0) → IsLossInside w.truth order (issue w order).world.truth

-- a device with power that tells of its loss lost it inside the order
abbrev pub PowerLostIsInside : Type 0
PowerLostIsInside = (w : World) (order : Order) → IsSound w.truth → IsOrderFor (geometry_of w) order → w.powered ≡ true → (issue w order).reply ≡ Err PowerLost → IsLossInside w.truth order (issue w order).world.truth
