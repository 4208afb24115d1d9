use Rattle.std.proofs.Common.{arith}
use Rattle.zn_truth.specs.Truth.{zone_at, with_zone}
use Rattle.zn_truth.specs.Power.{settled}
use Rattle.zn_truth.proofs.SoundIssue.{settle-geometry}
use Rattle.zn_zone.specs.Machine.{facts}
use Rattle.zn_device.specs.Stores.{truth_of}
use Rattle.zn_device.proofs.Harms.{device_settled, calm_harmed}
use Rattle.zn_device.proofs.memory.MemDeviceHarm.settle.Goals as goal

pub invariant_of-self : goal.invariant_of-self
invariant_of-self c = record {
  sound = device_settled (facts c.args.self.now.zones) (facts c.settle_stored.new.zones) c.args.self.now.stores.items c.settle_stored.new.stores.items c.args.z.0 c.args.from c.args.len c.args.fill
      c.args.self.now.sound c.requires.zone (omega arith) c.requires.len c.settle_stored.ensures.stored c.settle_stored.ensures.truth;
}

pub returns : goal.returns
returns c =
    let t = truth_of (facts c.args.self.now.zones) c.args.self.now.stores.items in
    calm_harmed t (with_zone t c.args.z.0 (settled (zone_at t c.args.z.0) c.args.from c.args.len c.args.fill)) (truth_of (facts c.settle_stored.new.zones) c.settle_stored.new.stores.items)
    c.settle_stored.ensures.truth (settle-geometry t c.args.z.0 c.args.from c.args.len c.args.fill)
