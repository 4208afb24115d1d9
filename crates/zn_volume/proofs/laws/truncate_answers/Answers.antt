use Rattle.zn_volume.proofs.Answering.{truncate_answers}
use Rattle.zn_volume.proofs.laws.truncate_answers.Goals as goal

pub returns : goal.returns
returns g c = truncate_answers _ c.lies_on_device.ensures
