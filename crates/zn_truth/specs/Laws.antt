-- Laws of the definitions.
use Rattle.std.specs.Prelude.{◌≡◌}
use Rattle.zn_truth.specs.Truth.{Truth}
use Rattle.zn_truth.specs.Orders.{Order, done}
use Rattle.zn_truth.specs.World.{issue, calm}

-- a device with power and nothing that waits does the order, and stays so
abbrev pub CalmIsDone : Type 0
CalmIsDone = (t : Truth) (order : Order) → issue (calm t) order ≡ record { reply = (done t order).reply; world = calm (done t order).truth }
