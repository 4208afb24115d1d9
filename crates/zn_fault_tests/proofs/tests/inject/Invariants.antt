use Rattle.std.proofs.Common.{◌≡◌, false}
use Rattle.zn_fault_tests.proofs.tests.inject.Given as goal

-- the device may take more commands
abbrev pub invariant-loop-i : goal.invariant-loop-i
invariant-loop-i g l = (g.D.Zoned.state l.device).spoilt ≡ false
