use Rattle.std.proofs.Common.{◌≡◌, false}
use Rattle.zn_dirs.proofs.tests.blocks.Given as goal

-- commands may follow
abbrev pub invariant-loop-at : goal.invariant-loop-at
invariant-loop-at g l = (g.D.Zoned.state l.device).spoilt ≡ false
