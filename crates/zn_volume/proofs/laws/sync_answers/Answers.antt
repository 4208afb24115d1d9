use Rattle.zn_volume.proofs.Answering.{sync_answers}
use Rattle.zn_volume.proofs.laws.sync_answers.Goals as goal

pub returns : goal.returns
returns c = sync_answers
