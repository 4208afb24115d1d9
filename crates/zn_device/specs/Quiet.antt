-- The state of a device that doesn't tell its bytes, by that of the device within. (own)
use Rattle.zn_truth.specs.Hush.{hushed_world}
use Rattle.zn_device.specs.States.{DeviceState}

-- the device on which bytes aren't told
abbrev pub hushed_state : DeviceState → DeviceState
hushed_state s = record s { world = hushed_world s.world }
