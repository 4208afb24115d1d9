use Rattle.zn_run.proofs.RunLaws.{faultless_runs}
use Rattle.zn_run.proofs.laws.faultless_runs.Goals as goal

pub returns : goal.returns
returns c = faultless_runs
