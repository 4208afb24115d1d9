use Rattle.zn_truth.specs.Loss.{turned}
use Rattle.zn_truth.proofs.SoundInject.{turned-geometry}
use Rattle.zn_zone.specs.Machine.{facts}
use Rattle.zn_device.specs.Stores.{truth_of}
use Rattle.zn_device.proofs.Harms.{device_turned, calm_harmed}
use Rattle.zn_device.proofs.memory.MemDeviceHarm.turn.Goals as goal

pub invariant_of-self : goal.invariant_of-self
invariant_of-self c = record {
  sound = device_turned (facts c.args.self.now.zones) (facts c.turn_stored.new.zones) c.args.self.now.stores.items c.turn_stored.new.stores.items c.args.z.0 c.args.to c.args.self.now.sound
      c.requires.zone c.requires.worse c.turn_stored.ensures.stored c.turn_stored.ensures.truth;
}

pub returns : goal.returns
returns c =
    let t = truth_of (facts c.args.self.now.zones) c.args.self.now.stores.items in
    calm_harmed t (turned t c.args.z.0 c.args.to) (truth_of (facts c.turn_stored.new.zones) c.turn_stored.new.stores.items) c.turn_stored.ensures.truth (turned-geometry t c.args.z.0 c.args.to)
