use Rattle.std.proofs.Common.{length, arith, sym, ◌∙◌}
use Rattle.zn_truth.specs.Orders.{ReportFrom}
use Rattle.zn_truth.proofs.Issuing.{report-truth}
use Rattle.zn_zone.specs.Machine.{facts}
use Rattle.zn_device.specs.Stores.{truth_of}
use Rattle.zn_device.proofs.Devices.{calm_commanded, zones_told, zones_few, report_reply, infos-truth_of}
use Rattle.zn_device.proofs.memory.MemDeviceZoned.report.Goals as goal

pub report_from-requires-clause-zones : goal.report_from-requires-clause-zones
report_from-requires-clause-zones c = omega (arith, zones_told c.args.self.now.zones c.args.self.now.stores.items c.args.self.now.sound, c.requires.zones)

pub report_from-requires-clause-few : goal.report_from-requires-clause-few
report_from-requires-clause-few c = zones_few c.args.self.now.zones c.args.self.now.stores.items c.args.self.now.sound

pub returns-clause-done : goal.returns-clause-done
returns-clause-done c =
    calm_commanded (truth_of (facts c.args.self.now.zones) c.args.self.now.stores.items) (truth_of (facts c.args.self.now.zones) c.args.self.now.stores.items) _ (ReportFrom c.args.first.0 (length c.args.out.now))
    (report_reply (facts c.args.self.now.zones) c.args.self.now.stores.items c.args.first.0 (length c.args.out.now)) (sym (report-truth (truth_of (facts c.args.self.now.zones) c.args.self.now.stores.items) c.args.first.0 (length c.args.out.now)))

pub returns-clause-infos : goal.returns-clause-infos
returns-clause-infos c = λ ok. c.report_from.ensures ∙ infos-truth_of (facts c.args.self.now.zones) c.args.self.now.stores.items c.args.first.0 (length c.args.out.now) c.args.self.now.sound.stored.count
