use Rattle.zn_volume.proofs.Leaving.{refusal_leaves}
use Rattle.zn_volume.proofs.laws.refusal_leaves.Goals as goal

pub returns : goal.returns
returns c = refusal_leaves
