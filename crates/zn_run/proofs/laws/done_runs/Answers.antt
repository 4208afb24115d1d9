use Rattle.zn_run.proofs.RunLaws.{done_runs}
use Rattle.zn_run.proofs.laws.done_runs.Goals as goal

pub returns : goal.returns
returns c = done_runs
