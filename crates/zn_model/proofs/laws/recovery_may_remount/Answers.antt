use Rattle.zn_model.proofs.Recoveries.{may_remount}
use Rattle.zn_model.proofs.laws.recovery_may_remount.Goals as goal

pub returns : goal.returns
returns c = may_remount
