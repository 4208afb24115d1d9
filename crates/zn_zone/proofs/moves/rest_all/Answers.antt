use Rattle.std.proofs.Common.{arith}
use Rattle.std.proofs.lemmas.Grind.{common_steps}
use Rattle.std.proofs.lemmas.List.Edits.{map_over_more}
use Rattle.zn_zone.specs.Machine.{at_rest}
use Rattle.zn_zone.proofs.moves.rest_all.Goals as goal

pub loop-z-preserved : goal.loop-z-preserved
loop-z-preserved c = grind (arith, common_steps, map_over_more at_rest)
