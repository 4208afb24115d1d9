use Rattle.zn_files.specs.States.{directory}
use Rattle.zn_zloop.proofs.Lost.{stops_told}
use Rattle.zn_zloop.proofs.zloop.Zloop.stops.Goals as goal

pub returns : goal.returns
returns g c = λ d image clear told is. stops_told c.args.self.now.is_spoilt (directory (g.F.Files.state c.args.self.now.files)) c.args.self.now.zones c.args.self.now.kepts.items c.args.self.now.listed.items d image c.args.self.now.holds clear told is
