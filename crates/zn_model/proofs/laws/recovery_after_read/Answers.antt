use Rattle.zn_model.proofs.Recoveries.{after_a_read}
use Rattle.zn_model.proofs.laws.recovery_after_read.Goals as goal

pub returns : goal.returns
returns c = after_a_read
