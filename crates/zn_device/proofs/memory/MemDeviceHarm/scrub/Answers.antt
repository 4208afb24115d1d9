use Rattle.zn_truth.specs.Truth.{zone_at, with_zone}
use Rattle.zn_truth.proofs.Sound.{with_zone-geometry}
use Rattle.std.proofs.Common.{refl}
use Rattle.zn_zone.specs.Machine.{facts}
use Rattle.zn_device.specs.Harms.{scrubbed}
use Rattle.zn_device.specs.Stores.{truth_of}
use Rattle.zn_device.proofs.Harms.{device_scrubbed, calm_harmed}
use Rattle.zn_device.proofs.memory.MemDeviceHarm.scrub.Goals as goal

pub invariant_of-self : goal.invariant_of-self
invariant_of-self c = record {
  sound = device_scrubbed (facts c.args.self.now.zones) c.args.self.now.stores.items c.scrub_stored.new.stores.items c.args.z.0 c.args.fill
      c.args.self.now.sound c.requires.zone c.requires.kind c.scrub_stored.ensures.stored c.scrub_stored.ensures.truth;
}

pub returns : goal.returns
returns c =
    let t = truth_of (facts c.args.self.now.zones) c.args.self.now.stores.items in
    calm_harmed t (with_zone t c.args.z.0 (scrubbed (zone_at t c.args.z.0) c.args.fill)) (truth_of (facts c.args.self.now.zones) c.scrub_stored.new.stores.items)
    c.scrub_stored.ensures.truth (with_zone-geometry t c.args.z.0 (scrubbed (zone_at t c.args.z.0) c.args.fill) refl)
