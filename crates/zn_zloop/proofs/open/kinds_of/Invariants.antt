use Rattle.std.proofs.Common.{◌≡◌, map}
use Rattle.std.specs.List.{range_with_len}
use Rattle.zn_stand.specs.ZoneNames.{kind_of}
use Rattle.zn_zloop.proofs.open.kinds_of.Given as goal

-- those before the index are there
abbrev pub invariant-loop-z : goal.invariant-loop-z
invariant-loop-z l = l.kinds.items ≡ map (kind_of l.geo) (range_with_len 0 l.z)
