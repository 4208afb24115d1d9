use Rattle.zn_lines.proofs.LineReading.{read_is_written}
use Rattle.zn_lines.proofs.laws.read_is_written.Goals as goal

pub returns : goal.returns
returns c = read_is_written
