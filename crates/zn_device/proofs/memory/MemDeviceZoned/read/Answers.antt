use Rattle.std.proofs.Common.{◌/◌, length, sym, ap, ◌∙◌}
use Rattle.zn_truth.specs.Orders.{ReadAt, done}
use Rattle.zn_truth.proofs.Issuing.{read-truth}
use Rattle.zn_zone.specs.Machine.{facts}
use Rattle.zn_device.specs.Stores.{truth_of}
use Rattle.zn_device.proofs.Devices.{calm_commanded}
use Rattle.zn_device.proofs.memory.MemDeviceZoned.read.Goals as goal

pub returns-clause-done : goal.returns-clause-done
returns-clause-done c =
    calm_commanded (truth_of (facts c.args.self.now.zones) c.args.self.now.stores.items) (truth_of (facts c.args.self.now.zones) c.args.self.now.stores.items) c.read_stored.result (ReadAt c.args.z.0 c.args.at (length c.args.out.now / 4096))
    (c.read_stored.ensures.reply ∙ ap (λ stores. (done (truth_of (facts c.args.self.now.zones) stores) (ReadAt c.args.z.0 c.args.at (length c.args.out.now / 4096))).reply) c.deref.ensures.value)
    (sym (read-truth (truth_of (facts c.args.self.now.zones) c.args.self.now.stores.items) c.args.z.0 c.args.at (length c.args.out.now / 4096)))
