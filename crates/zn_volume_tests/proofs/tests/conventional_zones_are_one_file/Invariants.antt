use Rattle.std.proofs.Common.{◌≡◌, false}
use Rattle.zn_volume_tests.proofs.tests.conventional_zones_are_one_file.Given as goal

-- calls may go on
abbrev pub invariant-loop-offset : goal.invariant-loop-offset
invariant-loop-offset g l = l.volume.device.spoilt ≡ false
