use Rattle.std.proofs.Common.{Ok, length, refl, arith}
use Rattle.zn_truth.specs.Orders.{ReportFrom, done}
use Rattle.zn_zone.specs.Machine.{facts}
use Rattle.zn_files.specs.States.{directory}
use Rattle.zn_zloop.specs.Seen.{truth_seen}
use Rattle.zn_zloop.proofs.Putting.{none_touches}
use Rattle.zn_zloop.proofs.Looking.{report_follows}
use Rattle.zn_zloop.proofs.Commanding.{kinds_told, few_told, commanded_as, infos_told}
use Rattle.zn_zloop.proofs.zloop.ZloopZoned.report.Goals as goal

pub report_zones-requires-clause-zones : goal.report_zones-requires-clause-zones
report_zones-requires-clause-zones g c = omega (arith, kinds_told c.args.self.now.is_spoilt (directory (g.F.Files.state c.args.self.now.files)) c.args.self.now.zones c.args.self.now.kepts.items c.args.self.now.listed.items c.args.self.now.holds, c.requires.zones)

pub report_zones-requires-clause-few : goal.report_zones-requires-clause-few
report_zones-requires-clause-few g c = few_told c.args.self.now.is_spoilt (directory (g.F.Files.state c.args.self.now.files)) c.args.self.now.zones c.args.self.now.kepts.items c.args.self.now.listed.items c.args.self.now.holds

pub returns-clause-done : goal.returns-clause-done
returns-clause-done g c =
    commanded_as (ReportFrom c.args.first.0 (length c.args.out.now)) (Ok tt) c.args.self.now.is_spoilt c.args.self.now.is_spoilt (g.F.Files.state c.args.self.now.files) (g.F.Files.state c.args.self.now.files) c.args.self.now.zones c.args.self.now.zones c.args.self.now.kepts.items c.args.self.now.kepts.items
    c.args.self.now.listed.items c.args.self.now.listed.items c.args.self.now.holds c.requires.unspoilt c.requires.unspoilt refl
    (report_follows (directory (g.F.Files.state c.args.self.now.files)) (facts c.args.self.now.zones) c.args.self.now.kepts.items c.args.self.now.listed.items c.args.first.0 (length c.args.out.now) (c.args.self.now.holds.device c.requires.unspoilt))
    (none_touches (done (truth_seen (directory (g.F.Files.state c.args.self.now.files)) (facts c.args.self.now.zones) c.args.self.now.kepts.items) (ReportFrom c.args.first.0 (length c.args.out.now))) (Ok tt) (g.F.Files.state c.args.self.now.files) (λ is. absurd (cc is)))

pub returns-clause-infos : goal.returns-clause-infos
returns-clause-infos g c = λ ok. infos_told c.args.self.now.is_spoilt (directory (g.F.Files.state c.args.self.now.files)) c.args.self.now.zones c.args.self.now.kepts.items c.args.self.now.listed.items c.args.first.0 (length c.args.out.now) c.report_zones.new.out c.args.self.now.holds c.requires.unspoilt c.report_zones.ensures
