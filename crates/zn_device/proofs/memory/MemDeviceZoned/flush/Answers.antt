use Rattle.zn_truth.specs.Orders.{FlushAll}
use Rattle.zn_zone.specs.Machine.{facts}
use Rattle.zn_device.specs.Stores.{truth_of}
use Rattle.zn_device.proofs.Devices.{calm_commanded, device_after, flush_reply}
use Rattle.zn_device.proofs.memory.MemDeviceZoned.flush.Goals as goal

pub invariant_of-self : goal.invariant_of-self
invariant_of-self c = record {
  sound = device_after (facts c.args.self.now.zones) (facts c.args.self.now.zones) c.args.self.now.stores.items c.flush_all.new.stores.items FlushAll c.args.self.now.sound tt c.flush_all.ensures.stored c.flush_all.ensures.truth;
}

pub returns : goal.returns
returns c = record { done = calm_commanded (truth_of (facts c.args.self.now.zones) c.args.self.now.stores.items) (truth_of (facts c.args.self.now.zones) c.flush_all.new.stores.items) _ FlushAll (flush_reply (facts c.args.self.now.zones) c.args.self.now.stores.items) c.flush_all.ensures.truth }
