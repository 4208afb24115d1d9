use Rattle.zn_run.proofs.RunLaws.{statuses_have_causes}
use Rattle.zn_run.proofs.laws.statuses_have_causes.Goals as goal

pub returns : goal.returns
returns c = statuses_have_causes
