use Rattle.zn_files.specs.States.{directory}
use Rattle.zn_zloop.proofs.Standing.{stands_told}
use Rattle.zn_zloop.proofs.zloop.Zloop.into_files.Goals as goal

pub returns-clause-stands : goal.returns-clause-stands
returns-clause-stands g c = λ d clear told. stands_told c.args.self.is_spoilt (directory (g.F.Files.state c.args.self.files)) c.args.self.zones c.args.self.kepts.items c.args.self.listed.items d c.args.self.holds clear told
