use Rattle.zn_truth.specs.Orders.{Manage}
use Rattle.zn_zone.specs.Machine.{facts}
use Rattle.zn_device.specs.Stores.{truth_of}
use Rattle.zn_device.proofs.Devices.{calm_commanded, device_after}
use Rattle.zn_device.proofs.memory.MemDeviceZoned.manage.Goals as goal

pub invariant_of-self : goal.invariant_of-self
invariant_of-self c = record {
  sound = device_after (facts c.args.self.now.zones) (facts c.manage_stored.new.zones) c.args.self.now.stores.items c.manage_stored.new.stores.items (Manage c.args.z.0 c.args.op) c.args.self.now.sound c.requires.zone c.manage_stored.ensures.stored c.manage_stored.ensures.truth;
}

pub returns : goal.returns
returns c = record { done = calm_commanded (truth_of (facts c.args.self.now.zones) c.args.self.now.stores.items) (truth_of (facts c.manage_stored.new.zones) c.manage_stored.new.stores.items) _ (Manage c.args.z.0 c.args.op) c.manage_stored.ensures.reply c.manage_stored.ensures.truth }
