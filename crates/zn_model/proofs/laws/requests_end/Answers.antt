use Rattle.zn_model.proofs.Recoveries.{requests_end}
use Rattle.zn_model.proofs.laws.requests_end.Goals as goal

pub returns : goal.returns
returns c = requests_end
