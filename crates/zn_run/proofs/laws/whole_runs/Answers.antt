use Rattle.zn_run.proofs.RunLaws.{whole_runs}
use Rattle.zn_run.proofs.laws.whole_runs.Goals as goal

pub returns : goal.returns
returns c = whole_runs
