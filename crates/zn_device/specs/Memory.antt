-- The state of a device in memory. (own)
use Rattle.std.specs.Prelude.{true, false}
use Rattle.zn_truth.specs.Truth.{Truth}
use Rattle.zn_truth.specs.World.{calm}
use Rattle.zn_zone.specs.Machine.{facts}
use Rattle.zn_device.specs.declared.memory.MemDevice.{MemDevice}
use Rattle.zn_device.specs.Stores.{truth_of}
use Rattle.zn_device.specs.States.{DeviceState}

-- with power, nothing that waits, and nothing that ever fails; it keeps its zones' conditions itself
abbrev pub calm_state : Truth → DeviceState
calm_state t = record { world = calm t; spoilt = false; faults = 0; breaks = 0; takes_memory = false; keeps_conditions = true }

-- the device as it is: it has power, and no fault waits
abbrev pub state_of : MemDevice → DeviceState
state_of device = calm_state (truth_of (facts device.zones) device.stores.items)
