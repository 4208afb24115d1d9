use Rattle.std.proofs.Common.{◌∙◌, arith, sym, take, drop, rules}
use Rattle.std.proofs.lemmas.Grind.{common_steps}
use Rattle.std.proofs.lemmas.List.{take-append-drop}
use Rattle.zn_base.proofs.ToldLaws.{grown_on}
use Rattle.zn_base.proofs.texts.write_all.Goals as goal

pub returns-in-Err : goal.returns-in-Err
returns-in-Err g c = record {
  all = search rules;
  front = (take c.loop-at.at c.args.bytes.now, (drop c.loop-at.at c.args.bytes.now, sym (take-append-drop c.loop-at.at c.args.bytes.now)), c.in-Err.ensures.done.bytes ∙ c.loop-at.invariant.grew);
  cause = grind (arith, common_steps);
}

pub loop-at-preserved : goal.loop-at-preserved
loop-at-preserved g c = record {
  within = omega (arith, c.in-Ok.ensures.bound);
  grew = grown_on c.args.bytes.now _ _ _ c.loop-at.at c.in-Ok.count c.loop-at.invariant.within c.loop-at.invariant.grew c.in-Ok.ensures.done.bytes;
  kept = c.in-Ok.ensures.done.cause.kept ∙ c.loop-at.invariant.kept;
}
