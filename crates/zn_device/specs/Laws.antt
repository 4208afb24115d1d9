-- What follows for every device. (own)
use Rattle.std.specs.Prelude.{◌≡◌, ◌⊎◌, ◌↔◌, true, false, List, ◌∷◌, IsErrOf}
use Rattle.zn_truth.specs.declared.DevError.TheVariants.{PowerLost, Memory}
use Rattle.zn_truth.specs.Orders.{Order, Reply}
use Rattle.zn_truth.specs.World.{issue}
use Rattle.zn_device.specs.Causes.{is_refused}
use Rattle.zn_device.specs.States.{DeviceState, Commanded, Ordered}

-- a loss of power is told exactly where the power is off as the command ends, want of memory excepted
abbrev pub LossIsTold : Type 0
LossIsTold = (order : Order) (result : Reply) (old new : DeviceState) → Commanded order result old new → (IsErrOf result Memory → ⊥) → IsErrOf result PowerLost ↔ new.world.powered ≡ false

-- and so it is by commands one after another, if there are any
abbrev pub LossIsToldInAll : Type 0
LossIsToldInAll = (order : Order) (orders : List Order) (result : Reply) (old new : DeviceState) → Ordered (order ∷ orders) result old new → (IsErrOf result Memory → ⊥)
    → IsErrOf result PowerLost ↔ new.world.powered ≡ false

-- without power a command answers nothing else
abbrev pub NoPowerIsTold : Type 0
NoPowerIsTold = (order : Order) (result : Reply) (old new : DeviceState) → Commanded order result old new → old.world.powered ≡ false → IsErrOf result PowerLost ⊎ IsErrOf result Memory

-- a device that keeps its conditions itself answers a refusal by its name, want of memory excepted
abbrev pub RefusalIsByName : Type 0
RefusalIsByName = (order : Order) (result : Reply) (old new : DeviceState) → Commanded order result old new → old.keeps_conditions ≡ true → is_refused (issue old.world order).reply ≡ true
    → (result ≡ (issue old.world order).reply) ⊎ IsErrOf result Memory
