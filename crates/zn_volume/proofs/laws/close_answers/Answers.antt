use Rattle.zn_volume.proofs.Answering.{close_answers}
use Rattle.zn_volume.proofs.laws.close_answers.Goals as goal

pub returns : goal.returns
returns g c = close_answers _ c.lies_on_device.ensures
