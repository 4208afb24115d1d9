use Rattle.zn_lines.proofs.LineReading.{written_is_read}
use Rattle.zn_lines.proofs.laws.written_is_read.Goals as goal

pub returns : goal.returns
returns c = written_is_read
