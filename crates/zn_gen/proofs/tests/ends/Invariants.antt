use Rattle.std.proofs.Common.{length}
use Rattle.zn_gen.specs.Churn.{lines_left}
use Rattle.zn_gen.proofs.tests.ends.Given as goal

abbrev pub decreases-loop : goal.decreases-loop
decreases-loop g l = length (lines_left l.churn)
