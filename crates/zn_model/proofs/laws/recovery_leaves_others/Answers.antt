use Rattle.zn_model.proofs.Recoveries.{leaves_others}
use Rattle.zn_model.proofs.laws.recovery_leaves_others.Goals as goal

pub returns : goal.returns
returns c = leaves_others
