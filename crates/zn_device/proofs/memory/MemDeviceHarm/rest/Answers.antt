use Rattle.std.proofs.Common.{ap}
use Rattle.zn_device.specs.Memory.{calm_state}
use Rattle.zn_device.proofs.memory.MemDeviceHarm.rest.Goals as goal

pub invariant_of-self : goal.invariant_of-self
invariant_of-self c = record { sound = c.rest_stored.ensures.device c.args.self.now.stores.items c.args.self.now.sound }

pub returns : goal.returns
returns c = ap calm_state (c.rest_stored.ensures.truth c.args.self.now.stores.items)
