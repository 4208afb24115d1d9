use Rattle.zn_model.proofs.Recoveries.{is_row}
use Rattle.zn_model.proofs.laws.recovery_is_row.Goals as goal

pub returns : goal.returns
returns c = is_row
