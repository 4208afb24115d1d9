use Rattle.std.proofs.Common.{sym, ◌∙◌}
use Rattle.zn_files.specs.States.{directory}
use Rattle.zn_zloop.proofs.Commanding.{kinds_told}
use Rattle.zn_zloop.proofs.zloop.ZloopZoned.zones.Goals as goal

pub returns : goal.returns
returns g c = c.zones.ensures ∙ sym (kinds_told c.args.self.now.is_spoilt (directory (g.F.Files.state c.args.self.now.files)) c.args.self.now.zones c.args.self.now.kepts.items c.args.self.now.listed.items c.args.self.now.holds)
