use Rattle.zn_volume.proofs.TellingPower.{loss_is_told}
use Rattle.zn_volume.proofs.laws.loss_is_told_by_calls.Goals as goal

pub returns : goal.returns
returns c = loss_is_told
