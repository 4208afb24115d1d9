use Rattle.std.proofs.Common.{refl}
use Rattle.zn_cli.proofs.Calls.{scratch_causes, scratch_accepted}
use Rattle.zn_cli.proofs.Churns.{churn_causes, churn_accepted}
use Rattle.zn_cli.proofs.top.carry_out.Goals as goal

pub returns-in-Scratch-clause-causes : goal.returns-in-Scratch-clause-causes
returns-in-Scratch-clause-causes g c = rw c.in-Scratch.is (scratch_causes refl c.run_scratch.ensures)

pub returns-in-Scratch-clause-accepted : goal.returns-in-Scratch-clause-accepted
returns-in-Scratch-clause-accepted g c = rw c.in-Scratch.is (scratch_accepted c.run_scratch.ensures)

pub returns-in-Churn-clause-causes : goal.returns-in-Churn-clause-causes
returns-in-Churn-clause-causes g c = rw c.in-Churn.is (churn_causes refl refl c.run_churn.ensures)

pub returns-in-Churn-clause-accepted : goal.returns-in-Churn-clause-accepted
returns-in-Churn-clause-accepted g c = rw c.in-Churn.is (churn_accepted c.run_churn.ensures)
