use Rattle.zn_volume.proofs.Fulfilling.{complete_answers}
use Rattle.zn_volume.proofs.laws.complete_answers.Goals as goal

pub returns : goal.returns
returns g c = complete_answers _ c.lies_on_device.ensures
