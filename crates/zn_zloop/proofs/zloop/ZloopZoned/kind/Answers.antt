use Rattle.std.proofs.Common.{arith, ◌∙◌}
use Rattle.zn_files.specs.States.{directory}
use Rattle.zn_zloop.proofs.Commanding.{kinds_told, kind_told}
use Rattle.zn_zloop.proofs.zloop.ZloopZoned.kind.Goals as goal

pub kind-requires : goal.kind-requires
kind-requires g c = omega (arith, kinds_told c.args.self.now.is_spoilt (directory (g.F.Files.state c.args.self.now.files)) c.args.self.now.zones c.args.self.now.kepts.items c.args.self.now.listed.items c.args.self.now.holds, c.requires)

pub returns : goal.returns
returns g c = c.kind.ensures ∙ kind_told c.args.self.now.is_spoilt (directory (g.F.Files.state c.args.self.now.files)) c.args.self.now.zones c.args.self.now.kepts.items c.args.self.now.listed.items c.args.z.0 c.args.self.now.holds
