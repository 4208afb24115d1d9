use Rattle.std.proofs.Common.{◌-◌}
use Rattle.zn_backing.specs.Loops.{IsBetween}
use Rattle.zn_backing.proofs.listed.place_of.Given as goal

abbrev pub invariant-loop-low : goal.invariant-loop-low
invariant-loop-low l = IsBetween l.names l.name l.low l.high

abbrev pub decreases-loop-low : goal.decreases-loop-low
decreases-loop-low l = l.high - l.low
