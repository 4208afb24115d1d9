use Rattle.zn_volume.proofs.Leaving.{fault_leaves}
use Rattle.zn_volume.proofs.laws.fault_leaves.Goals as goal

pub returns : goal.returns
returns c = fault_leaves
