use Rattle.zn_files.specs.States.{directory}
use Rattle.zn_zloop.proofs.Harming.{rest_holds, rest_told}
use Rattle.zn_zloop.proofs.zloop.ZloopHarm.rest.Goals as goal

pub invariant_of-self : goal.invariant_of-self
invariant_of-self g c = record {
  holds = rest_holds c.args.self.now.is_spoilt (directory (g.F.Files.state c.args.self.now.files)) c.args.self.now.zones c.rest_zones.new.zones c.args.self.now.kepts.items c.args.self.now.listed.items c.args.self.now.holds c.rest_zones.ensures.geometry
      (c.rest_zones.ensures.device (directory (g.F.Files.state c.args.self.now.files)) c.args.self.now.kepts.items c.args.self.now.listed.items);
}

pub returns : goal.returns
returns g c = rest_told c.args.self.now.is_spoilt (g.F.Files.state c.args.self.now.files) c.args.self.now.zones c.rest_zones.new.zones c.args.self.now.kepts.items c.requires.unspoilt (c.rest_zones.ensures.truth (directory (g.F.Files.state c.args.self.now.files)) c.args.self.now.kepts.items)
