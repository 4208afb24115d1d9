use Rattle.std.proofs.Common.{refl}
use Rattle.std.specs.Fmt.{digits}
use Rattle.zn_commands.proofs.cases.format_lines.Goals as goal

pub returns : goal.returns
unfolding digits
returns c = refl
