use Rattle.std.proofs.Common.{◌≡◌, false}
use Rattle.zn_dirs.proofs.tests.holds.Given as goal

-- commands may follow
abbrev pub invariant-loop-z : goal.invariant-loop-z
invariant-loop-z g l = (g.D.Zoned.state l.device).spoilt ≡ false
