use Rattle.zn_volume.proofs.Fulfilling.{submit_answers}
use Rattle.zn_volume.proofs.laws.submit_answers.Goals as goal

pub returns : goal.returns
returns c = submit_answers
