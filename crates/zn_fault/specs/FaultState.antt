-- The state of a device with faults and a loss that wait, by that of the device within. (own)
use Rattle.std.specs.Prelude.{ℕ, Bool, List, Option}
use Rattle.zn_truth.specs.declared.FaultSpec.{FaultSpec}
use Rattle.zn_truth.specs.declared.Armed.{Armed}
use Rattle.zn_truth.specs.World.{calm}
use Rattle.zn_device.specs.States.{DeviceState}

-- the device within, with this power, these faults that wait, oldest first, the loss that waits or none, and this count
-- of faults
abbrev pub faulty_state : DeviceState → Bool → List FaultSpec → Option Armed → ℕ → DeviceState
faulty_state inner powered pending armed faults = record inner {
  world = record { truth = inner.world.truth; powered = powered; pending = pending; armed = armed };
  faults = faults;
}

-- the device within, by the state of the one around it: with power, nothing that waits, and no faults of its own
abbrev pub inner_state : DeviceState → DeviceState
inner_state s = record s { world = calm s.world.truth; faults = 0 }
