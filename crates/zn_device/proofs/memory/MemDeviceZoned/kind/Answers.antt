use Rattle.std.proofs.Common.{arith, ◌∙◌}
use Rattle.zn_device.proofs.Devices.{zones_told, kind_told}
use Rattle.zn_device.proofs.memory.MemDeviceZoned.kind.Goals as goal

pub kind-requires : goal.kind-requires
kind-requires c = omega (arith, zones_told c.args.self.now.zones c.args.self.now.stores.items c.args.self.now.sound, c.requires)

pub returns : goal.returns
returns c = c.kind.ensures ∙ kind_told c.args.self.now.zones c.args.self.now.stores.items c.args.z.0 c.args.self.now.sound
