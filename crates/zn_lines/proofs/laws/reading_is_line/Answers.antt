use Rattle.zn_lines.proofs.LineReading.{reading_is_line}
use Rattle.zn_lines.proofs.laws.reading_is_line.Goals as goal

pub returns : goal.returns
returns c = reading_is_line
