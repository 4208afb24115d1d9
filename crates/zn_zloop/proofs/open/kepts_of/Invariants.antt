use Rattle.zn_zloop.specs.Opening.{AreDurable}
use Rattle.zn_zloop.proofs.open.kepts_of.Given as goal

-- those before the index are there
abbrev pub invariant-loop-z : goal.invariant-loop-z
invariant-loop-z l = AreDurable l.geo l.infos l.z l.kepts.items
