use Rattle.std.proofs.Common.{◌≡◌, false}
use Rattle.zn_volume_tests.proofs.tests.zones.full_files_are_not_active.Given as goal

-- calls may go on
abbrev pub invariant-loop-offset : goal.invariant-loop-offset
invariant-loop-offset g l = l.volume.device.spoilt ≡ false
