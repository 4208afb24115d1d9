use Rattle.std.proofs.Common.{◌-◌, length}
use Rattle.zn_report.proofs.Walks.{IsWalked}
use Rattle.zn_report.proofs.walk.layout.Given as goal

abbrev pub invariant-loop-z : goal.invariant-loop-z
invariant-loop-z l = IsWalked l.aggr l.kinds l.z l.layout

abbrev pub decreases-loop-z : goal.decreases-loop-z
decreases-loop-z l = length l.kinds - l.z
