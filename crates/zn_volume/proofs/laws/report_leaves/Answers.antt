use Rattle.zn_volume.proofs.Leaving.{report_leaves}
use Rattle.zn_volume.proofs.laws.report_leaves.Goals as goal

pub returns : goal.returns
returns c = report_leaves
