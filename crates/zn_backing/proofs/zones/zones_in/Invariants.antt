use Rattle.zn_backing.specs.Looks.{AreLooked}
use Rattle.zn_backing.proofs.zones.zones_in.Given as goal

abbrev pub invariant-loop-z : goal.invariant-loop-z
invariant-loop-z g l = AreLooked l.geo l.z l.infos.items (g.F.Files.state l.fn.files) (g.F.Files.state l.files)
