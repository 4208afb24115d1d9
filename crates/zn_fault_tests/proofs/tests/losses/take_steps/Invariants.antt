use Rattle.std.proofs.Common.{◌≡◌, false}
use Rattle.zn_fault_tests.proofs.tests.losses.take_steps.Given as goal

-- the device may take more commands
abbrev pub invariant-loop-step : goal.invariant-loop-step
invariant-loop-step g l = (g.D.Zoned.state l.device).spoilt ≡ false
