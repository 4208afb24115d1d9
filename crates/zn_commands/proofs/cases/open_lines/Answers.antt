use Rattle.std.proofs.Common.{refl}
use Rattle.std.specs.Fmt.{digits}
use Rattle.zn_stand.specs.ZoneNames.{zone_name, six_digits}
use Rattle.zn_commands.proofs.cases.open_lines.Goals as goal

pub returns : goal.returns
unfolding digits zone_name six_digits
returns c = refl
