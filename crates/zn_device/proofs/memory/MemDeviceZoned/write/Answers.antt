use Rattle.zn_truth.specs.Orders.{WriteAt}
use Rattle.zn_zone.specs.Machine.{facts}
use Rattle.zn_device.specs.Stores.{truth_of}
use Rattle.zn_device.proofs.Devices.{calm_commanded, device_after}
use Rattle.zn_device.proofs.memory.MemDeviceZoned.write.Goals as goal

pub invariant_of-self : goal.invariant_of-self
invariant_of-self c = record {
  sound = device_after (facts c.args.self.now.zones) (facts c.write_stored.new.zones) c.args.self.now.stores.items c.write_stored.new.stores.items (WriteAt c.args.z.0 c.args.at c.args.bytes.now) c.args.self.now.sound (c.requires.whole, c.requires.fits) c.write_stored.ensures.stored c.write_stored.ensures.truth;
}

pub returns : goal.returns
returns c = record { done = calm_commanded (truth_of (facts c.args.self.now.zones) c.args.self.now.stores.items) (truth_of (facts c.write_stored.new.zones) c.write_stored.new.stores.items) _ (WriteAt c.args.z.0 c.args.at c.args.bytes.now) c.write_stored.ensures.reply c.write_stored.ensures.truth }
