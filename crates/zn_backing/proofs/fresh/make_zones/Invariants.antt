use Rattle.std.specs.Prelude.{Ok}
use Rattle.zn_backing.specs.Making.{HasZonesBefore, MakesFiles}
use Rattle.zn_backing.proofs.fresh.make_zones.Given as goal

abbrev pub invariant-loop-z : goal.invariant-loop-z
invariant-loop-z g l = MakesFiles l.geo (Ok tt) (g.F.Files.state l.fn.files) (g.F.Files.state l.files) (HasZonesBefore l.geo l.z)
