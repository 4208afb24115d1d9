use Rattle.zn_volume.proofs.Answering.{write_answers}
use Rattle.zn_volume.proofs.laws.write_answers.Goals as goal

pub returns : goal.returns
returns g c = write_answers _ c.lies_on_device.ensures
