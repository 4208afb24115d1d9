use Rattle.zn_lines.proofs.ToldLines.{line_same, line_still}
use Rattle.zn_lines.proofs.told_laws.told_lines.Goals as goal

pub returns : goal.returns
returns c = record { same = line_same; still = line_still }
