use Rattle.std.proofs.Common.{◌∙◌, arith}
use Rattle.zn_zone.specs.Machine.{facts}
use Rattle.zn_device.proofs.Devices.{zones_told, info-truth_of}
use Rattle.zn_device.proofs.memory.tests.info.Goals as goal

pub info-requires : goal.info-requires
info-requires c = let device = c.args.device.now in omega (arith, c.requires, zones_told device.zones device.stores.items device.sound)

pub returns : goal.returns
returns c = let device = c.args.device.now in c.info.ensures ∙ info-truth_of (facts device.zones) device.stores.items c.args.z.0 device.sound.stored.count
