use Rattle.std.proofs.Common.{◌≡◌, false}
use Rattle.zn_dirs.proofs.tests.drive.Given as goal

-- commands may follow
abbrev pub invariant-loop-i : goal.invariant-loop-i
invariant-loop-i g l = (g.D.Zoned.state l.device).spoilt ≡ false
