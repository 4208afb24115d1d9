use Rattle.zn_volume.proofs.Answering.{open_answers}
use Rattle.zn_volume.proofs.laws.open_answers.Goals as goal

pub returns : goal.returns
returns g c = open_answers _ c.lies_on_device.ensures
