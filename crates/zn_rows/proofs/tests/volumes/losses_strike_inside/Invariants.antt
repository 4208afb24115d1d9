use Rattle.std.proofs.Common.{◌≡◌, false}
use Rattle.zn_rows.proofs.tests.volumes.losses_strike_inside.Given as goal

-- calls may follow
abbrev pub invariant-loop-command : goal.invariant-loop-command
invariant-loop-command g l = l.volume.device.spoilt ≡ false
