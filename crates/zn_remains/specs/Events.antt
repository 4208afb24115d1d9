-- What may happen to a device, and what becomes of the device. (own)
use Rattle.std.specs.Prelude.{◌≡◌, ℕ, List, fold, true, false}
use Rattle.zn_truth.specs.declared.Cond.{Cond}
use Rattle.zn_truth.specs.declared.FaultSpec.{FaultSpec}
use Rattle.zn_truth.specs.declared.LossSpec.{LossSpec}
use Rattle.zn_truth.specs.declared.Armed.{Armed}
use Rattle.zn_truth.specs.Truth.{Geometry}
use Rattle.zn_truth.specs.Orders.{Order}
use Rattle.zn_truth.specs.World.{World, issue}
use Rattle.zn_truth.specs.Inject.{inject, turn, lose_power, arm_loss, power_on}
use Rattle.zn_truth.specs.Obeying.{IsOrderFor}

-- An event of a device: an order to it, a fault that is asked for, a turn of a zone's condition, a loss of power, a
-- loss that is told to wait for a command, or the power coming back.
pub data Event : Type 0 where
  Ordered : Order → Event
  FaultAsked : FaultSpec → Event
  Turned : ℕ → Cond → Event
  PowerLost : LossSpec → Event
  LossArmed : Armed → Event
  PowerBack : Event

-- the device after an event, whether it was done, refused, met by a fault, or struck by a loss
abbrev pub after_event : World → Event → World
after_event w (Ordered order) = (issue w order).world
after_event w (FaultAsked fault) = (inject w fault).world
after_event w (Turned z to) = (turn w z to).world
after_event w (PowerLost loss) = (lose_power w loss).world
after_event w (LossArmed armed) = (arm_loss w armed).world
after_event w PowerBack = power_on w

-- the device after events, one after another
abbrev pub after_events : World → List Event → World
after_events w events = fold after_event w events

-- An order names zones that are there and blocks that they have room for. Any other event may name anything: the
-- device refuses what isn't there.
abbrev pub FitsIn : Geometry → Event → Type 0
FitsIn g (Ordered order) = IsOrderFor g order
FitsIn g (FaultAsked fault) = Unit {0}
FitsIn g (Turned z to) = Unit {0}
FitsIn g (PowerLost loss) = Unit {0}
FitsIn g (LossArmed armed) = Unit {0}
FitsIn g PowerBack = Unit {0}

-- The power goes at an event: it was on before, and is off after it.
pub record PowerGoes (w : World) (event : Event) : Type 0 where
  pub on : w.powered ≡ true
  pub off : (after_event w event).powered ≡ false
