use Rattle.std.proofs.Common.{arith, rules}
use Rattle.std.proofs.lemmas.Grind.{common_steps}
use Rattle.zn_base.proofs.PartLaws.{parts_cut}
use Rattle.zn_base.proofs.texts.write_parts.Goals as goal

pub returns-in-Err : goal.returns-in-Err
returns-in-Err g c = record {
  all = search rules;
  front = parts_cut _ _ _ c.args.parts.now c.loop-part.part-index _ (omega arith) c.loop-part.invariant.grew c.in-Err.ensures.front;
  cause = grind (arith, common_steps);
}
