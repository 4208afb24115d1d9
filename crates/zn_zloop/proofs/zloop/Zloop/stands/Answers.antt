use Rattle.zn_files.specs.States.{directory}
use Rattle.zn_zloop.proofs.Standing.{stands_told}
use Rattle.zn_zloop.proofs.zloop.Zloop.stands.Goals as goal

pub returns : goal.returns
returns g c = λ d clear told. stands_told c.args.self.now.is_spoilt (directory (g.F.Files.state c.args.self.now.files)) c.args.self.now.zones c.args.self.now.kepts.items c.args.self.now.listed.items d c.args.self.now.holds clear told
