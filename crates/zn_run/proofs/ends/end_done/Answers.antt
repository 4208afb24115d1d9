use Rattle.zn_run.proofs.EndLaws.{nothing_due}
use Rattle.zn_run.proofs.ends.end_done.Goals as goal

pub returns : goal.returns
returns g c = c.pass_on.ensures _ _ (nothing_due _)
