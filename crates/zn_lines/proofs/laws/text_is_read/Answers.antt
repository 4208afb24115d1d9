use Rattle.zn_lines.proofs.LineReading.{text_is_read}
use Rattle.zn_lines.proofs.laws.text_is_read.Goals as goal

pub returns : goal.returns
returns c = text_is_read
