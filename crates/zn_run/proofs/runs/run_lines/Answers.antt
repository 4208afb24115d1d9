use Rattle.std.proofs.Common.{drop, sym, refl, arith, length-drop}
use Rattle.std.proofs.lemmas.List.{take-append-drop}
use Rattle.zn_lines.specs.declared.runs.Tail.TheVariants.{More}
use Rattle.zn_lines.specs.declared.runs.Ending.TheVariants.{LineTooLong}
use Rattle.zn_run.proofs.LastLaws.{long_is, script_here}
use Rattle.zn_run.proofs.EndLaws.{cut_by}
use Rattle.zn_run.proofs.RanLaws.{ran_behind, ran_ended, ran_starved, ran_broken, ran_unpassed, rest_flushed}
use Rattle.zn_run.proofs.runs.run_lines.Goals as goal

pub overflow_sub-bytes : goal.overflow_sub-bytes
overflow_sub-bytes g c = (c.in-Rest.ensures More).within

pub returns-then-bytes-at-gt-LINE_LIMIT : goal.returns-then-bytes-at-gt-LINE_LIMIT
returns-then-bytes-at-gt-LINE_LIMIT g c =
    let h = c.in-Rest.ensures More in
    let rest = drop c.in-Rest.at c.args.bytes.now in
    let table = (g.M.Machine.state c.carry_out.new.machine).table in
    ran_behind _ (sym (take-append-drop c.in-Rest.at c.args.bytes.now)) h.lines
    (script_here c.in-Rest.number rest (LineTooLong c.in-Rest.number) h.lines.goes_on (omega (arith, c.requires.near, length-drop c.in-Rest.at c.args.bytes.now)) tt refl
    (λ givens. long_is givens More table c.in-Rest.number rest h.one (omega (arith, length-drop c.in-Rest.at c.args.bytes.now))) c.end_by_script.ensures)

pub returns-in-Ok : goal.returns-in-Ok
returns-in-Ok g c =
    let h = c.in-Rest.ensures More in record { rest = rest_flushed h c.in-Ok.ensures.done; fits = omega (arith, h.within) }

pub returns-in-Err : goal.returns-in-Err
returns-in-Err g c =
    let h = c.in-Rest.ensures More in
    ran_unpassed (drop c.in-Rest.at c.args.bytes.now) (sym (take-append-drop c.in-Rest.at c.args.bytes.now)) h.lines (cut_by c.in-Err.ensures.done)

pub returns-in-Ended : goal.returns-in-Ended
returns-in-Ended g c = ran_ended c.requires.near (c.in-Ended.ensures More) c.end_by_script-in-Ended.ensures

pub returns-in-Broken : goal.returns-in-Broken
returns-in-Broken g c = ran_broken c.requires.near (c.in-Broken.ensures More) c.end_broken.ensures

pub returns-in-Memory : goal.returns-in-Memory
returns-in-Memory g c = ran_starved (c.in-Memory.ensures More) c.end_starved.ensures
