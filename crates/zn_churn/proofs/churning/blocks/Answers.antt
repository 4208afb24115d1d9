use Rattle.std.proofs.Common.{◌≡◌, ◌∙◌, Ok, ap, arith}
use Rattle.std.proofs.lemmas.Result.{err_from_is_err_and}
use Rattle.zn_churn.proofs.Sizes.{sizes_halt, next_file, no_more_files}
use Rattle.zn_churn.proofs.churning.blocks.Goals as goal

pub returns-in_err-answer : goal.returns-in_err-answer
returns-in_err-answer g c =
    let p = err_from_is_err_and c.from_residual.result c.from_residual.ensures.1 in
    let m = rw c.size_line.ensures at c.in_err-answer.ensures.answered in
    rw (p.1, p.2) (sizes_halt c.in_err-answer.field-0.0 c.loop-handle.handle _ _ (g.M.Machine.state c.args.machine.now)
    (g.M.Machine.state c.loop-handle.machine) (g.M.Machine.state c.answer.new.machine) c.loop-handle-test.true
    c.loop-handle.invariant.breaks m)

pub loop-handle-preserved : goal.loop-handle-preserved
loop-handle-preserved g c =
    let i = c.loop-handle.invariant in
    let a = rw c.size_line.ensures at c.in_ok-answer.ensures.answered in
    record {
      told = next_file (g.M.Machine.state c.loop-handle.machine).table (g.M.Machine.state c.answer.new.machine).table _
          c.loop-handle.blocks c.count_in.result c.loop-handle.handle _ c.bytes.result.now c.loop-handle-test.true
          i.told a.reply a.table c.bytes.ensures c.count_in.ensures.count;
      small = omega (arith, i.small, c.count_in.ensures.most);
      counted = omega (arith, i.counted, c.in_ok-answer.ensures.counted);
      breaks = a.breaks ∙ i.breaks;
      goes_on = a.goes_on;
    }

pub returns : goal.returns
returns g c =
    let i = c.loop-handle.invariant in
    let none = no_more_files (g.M.Machine.state c.loop-handle.machine).table c.loop-handle.handle c.loop-handle-test.false in
    let all : _ ≡ c.loop-handle.blocks = omega (arith, i.told, none) in
    record { comes = ap Ok all; breaks = i.breaks; goes_on = i.goes_on }
