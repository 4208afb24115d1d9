use Rattle.std.proofs.Common.{◌≡◌, ◌++◌, map, take, drop}
use Rattle.zn_zone.specs.Machine.{at_rest}
use Rattle.zn_zone.proofs.moves.rest_all.Given as goal

-- those before the index are closed
abbrev pub invariant-loop-z : goal.invariant-loop-z
invariant-loop-z l = l.zones ≡ map at_rest (take l.z l.initial.zones) ++ drop l.z l.initial.zones
