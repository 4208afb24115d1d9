use Rattle.std.proofs.Common.{◌≡◌, false}
use Rattle.zn_fault_tests.proofs.tests.losses.read_blocks.Given as goal

-- the device may take more commands
abbrev pub invariant-loop-block : goal.invariant-loop-block
invariant-loop-block g l = (g.D.Zoned.state l.device).spoilt ≡ false
