use Rattle.zn_volume.proofs.HandlesAlike.{handles_alike}
use Rattle.zn_volume.proofs.laws.handles_are_alike.Goals as goal

pub returns : goal.returns
returns c = handles_alike
