use Rattle.std.proofs.Common.{arith}
use Rattle.std.proofs.lemmas.Grind.{common_steps}
use Rattle.zn_pool.proofs.Ranges.{range-push}
use Rattle.zn_pool.proofs.chains.links_in_order.Goals as goal

pub loop-b-preserved : goal.loop-b-preserved
loop-b-preserved c = grind (arith, common_steps, range-push)
