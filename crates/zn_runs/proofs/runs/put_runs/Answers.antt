use Rattle.std.proofs.Common.{arith, refl}
use Rattle.std.proofs.lemmas.Grind.{common_steps}
use Rattle.zn_base.proofs.RunLaws.{next_run}
use Rattle.zn_runs.proofs.RestLaws.{held_more}
use Rattle.zn_runs.proofs.runs.put_runs.Goals as goal

pub overflow_add-next : goal.overflow_add-next
overflow_add-next c =
    let n = next_run c.args.bytes.now c.loop-next.next c.equal_front-count.result _ c.loop-next-test.true refl c.equal_front-count.ensures in
    grind (arith, common_steps)

pub loop-next-preserved : goal.loop-next-preserved
loop-next-preserved c =
    let n = next_run c.args.bytes.now c.loop-next.next c.equal_front-count.result _ c.loop-next-test.true refl c.equal_front-count.ensures in
    record {
      later = omega (arith, c.loop-next.invariant.later);
      within = n.within;
      held = c.put_run-held.ensures.within;
      begun = λ same. absurd (omega (arith, c.loop-next.invariant.later, n.some));
      text = held_more c.args.bytes.now _ _ c.args.from c.loop-next.next c.equal_front-count.result _ n c.loop-next.invariant.text c.put_run-held.ensures.text;
    }
