use Rattle.std.proofs.Common.{◌∙◌, arith, length, take, ap}
use Rattle.std.proofs.lemmas.Result.{err_from_is_err_and}
use Rattle.zn_churn.proofs.Carried.{goes_on, comes_to, halts, halts_as}
use Rattle.zn_churn.specs.declared.tally.Tally.{Tally}
use Rattle.zn_churn.proofs.churning.carry_out.Goals as goal

pub returns-in_err-answer-clause-came : goal.returns-in_err-answer-clause-came
returns-in_err-answer-clause-came g c =
    let p = err_from_is_err_and c.from_residual.result c.from_residual.ensures.1 in
    let i = c.loop-len.invariant in
    let m = halts c.in_err-answer.field-0.0 _ _ _ c.loop-len.tally (g.M.Machine.state c.args.machine.now) (g.M.Machine.state c.loop-len.machine)
    (g.M.Machine.state c.answer.new.machine) c.in-Some.ensures.line i.breaks c.in_err-answer.ensures.answered in
    rw (p.1, p.2) (halts_as c.in_err-answer.field-0.0 _ _ (g.M.Machine.state c.args.machine.now) (g.M.Machine.state c.answer.new.machine) i.came m)

pub loop-len-preserved : goal.loop-len-preserved
loop-len-preserved g c =
    let i = c.loop-len.invariant in
    let a = c.in_ok-answer.ensures.answered in
    record {
      came = i.came ∙ goes_on (take c.in-Some.len c.next.new.out) _ c.bytes.result.now _ _ c.loop-len.tally c.count.new.self
          (g.M.Machine.state c.loop-len.machine) (g.M.Machine.state c.answer.new.machine)
          c.in-Some.ensures.line a c.bytes.ensures c.count.ensures.tally;
      within = c.count.ensures.within;
      left = omega (arith, i.left, ap (λ (t : Tally). t.lines) c.count.ensures.tally, ap length c.in-Some.ensures.line);
      counted = omega (arith, i.counted, c.in_ok-answer.ensures.counted, ap (λ (t : Tally). t.lines) c.count.ensures.tally);
      breaks = a.breaks ∙ i.breaks;
      goes_on = a.goes_on;
    }

pub returns-clause-came : goal.returns-clause-came
returns-clause-came g c =
    let i = c.loop-len.invariant in
    record {
      comes = i.came ∙ comes_to _ _ c.in_default.ensures.last;
      breaks = i.breaks;
      goes_on = i.goes_on;
    }
