use Rattle.std.proofs.Common.{arith, rules, ◌∙◌}
use Rattle.std.proofs.lemmas.Grind.{common_steps}
use Rattle.zn_runs.proofs.RestLaws.{rest_more, rest_cut, rest_end}
use Rattle.zn_runs.proofs.runs.write_runs.Goals as goal

pub loop-at-preserved : goal.loop-at-preserved
loop-at-preserved g c =
    let f = c.put_runs-filled in
    record {
      within = f.ensures.within;
      left = rest_more c.args.bytes.now _ c.loop-at.at f.result.next c.loop-at.invariant.left f.ensures.text c.in-Ok.ensures.all;
      kept = c.in-Ok.ensures.cause.kept ∙ c.loop-at.invariant.kept;
    }

pub returns-in-Err-clause-written : goal.returns-in-Err-clause-written
returns-in-Err-clause-written g c =
    let f = c.put_runs-filled in
    record {
      all = search rules;
      front = rest_cut c.args.bytes.now _ c.loop-at.at f.result.next c.loop-at.invariant.left f.ensures.text c.in-Err.ensures.front;
      cause = grind (arith, common_steps);
    }

pub returns-clause-written : goal.returns-clause-written
returns-clause-written g c = record {
  all = rest_end c.args.bytes.now c.loop-at.at c.loop-at-test.false c.loop-at.invariant.left;
  front = search rules;
  cause = grind (arith, common_steps);
}
