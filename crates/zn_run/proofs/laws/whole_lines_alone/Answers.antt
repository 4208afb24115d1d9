use Rattle.zn_run.proofs.RunLaws.{whole_lines_alone}
use Rattle.zn_run.proofs.laws.whole_lines_alone.Goals as goal

pub returns : goal.returns
returns c = whole_lines_alone
