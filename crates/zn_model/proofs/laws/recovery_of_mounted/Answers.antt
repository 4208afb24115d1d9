use Rattle.zn_model.proofs.Recoveries.{of_mounted}
use Rattle.zn_model.proofs.laws.recovery_of_mounted.Goals as goal

pub returns : goal.returns
returns c = of_mounted
