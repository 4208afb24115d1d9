use Rattle.std.proofs.Common.{sym, ◌∙◌}
use Rattle.zn_device.proofs.Devices.{zones_told}
use Rattle.zn_device.proofs.memory.MemDeviceZoned.zones.Goals as goal

pub returns : goal.returns
returns c = c.zones.ensures ∙ sym (zones_told c.args.self.now.zones c.args.self.now.stores.items c.args.self.now.sound)
