use Rattle.std.proofs.Common.{◌≡◌, false}
use Rattle.zn_volume_tests.proofs.tests.zones.other_sizes_are_refused.Given as goal

-- calls may go on
abbrev pub invariant-loop-size : goal.invariant-loop-size
invariant-loop-size g l = l.volume.device.spoilt ≡ false
