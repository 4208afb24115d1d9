use Rattle.std.proofs.Common.{refl}
use Rattle.zn_truth.specs.OrderLists.{each_zone}
use Rattle.zn_model.proofs.laws.pieces_case.Goals as goal

pub returns : goal.returns
unfolding each_zone
returns c = refl
