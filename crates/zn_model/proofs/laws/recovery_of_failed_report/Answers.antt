use Rattle.zn_model.proofs.Recoveries.{of_failed_report}
use Rattle.zn_model.proofs.laws.recovery_of_failed_report.Goals as goal

pub returns : goal.returns
returns c = of_failed_report
