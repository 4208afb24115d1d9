use Rattle.zn_volume.proofs.Answering.{read_answers}
use Rattle.zn_volume.proofs.laws.read_answers.Goals as goal

pub returns : goal.returns
returns g c = read_answers _ c.lies_on_device.ensures
