use Rattle.zn_volume.proofs.Recovering.{recovery_of_answered}
use Rattle.zn_volume.proofs.laws.recovery_of_answered.Goals as goal

pub returns : goal.returns
returns c = recovery_of_answered
