use Rattle.std.proofs.Common.{length, ap, ◌∙◌, arith}
use Rattle.zn_truth.specs.Truth.{zone_at}
use Rattle.zn_zone.specs.Machine.{facts}
use Rattle.zn_device.specs.Stores.{truth_of}
use Rattle.zn_device.proofs.Devices.{zones_told}
use Rattle.zn_device.proofs.Stores.{zones-facts}
use Rattle.zn_device.proofs.memory.MemDeviceHarm.durable.Goals as goal

pub durable_stored-requires : goal.durable_stored-requires
durable_stored-requires c =
    let device = c.args.self.now in
    omega (arith, c.requires, zones_told device.zones device.stores.items device.sound, zones-facts device.zones, device.sound.stored.count)

pub returns : goal.returns
returns c =
    let device = c.args.self.now in
    c.durable_stored.ensures (facts device.zones) (ap length c.deref.ensures.value ∙ device.sound.stored.count)
    ∙ ap (λ stores. (zone_at (truth_of (facts device.zones) stores) c.args.z.0).durable) c.deref.ensures.value
