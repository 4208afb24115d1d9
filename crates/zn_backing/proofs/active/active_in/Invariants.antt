use Rattle.zn_backing.specs.Actives.{AreCounted}
use Rattle.zn_backing.proofs.active.active_in.Given as goal

abbrev pub invariant-loop-z : goal.invariant-loop-z
invariant-loop-z l = AreCounted l.geo l.infos l.z l.count
