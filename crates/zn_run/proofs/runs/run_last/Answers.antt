use Rattle.std.proofs.Common.{◌≤◌, length, rules, sym, arith, length-drop}
use Rattle.std.proofs.lemmas.List.{take-append-drop, take_rest}
use Rattle.zn_run.proofs.RanLaws.{ran_behind, ran_ended, ran_cut, ran_starved, ran_broken}
use Rattle.zn_run.proofs.runs.run_last.Goals as goal

pub run_rest-requires-clause-near : goal.run_rest-requires-clause-near
run_rest-requires-clause-near g c = omega (arith, c.requires.near, length-drop c.in-Rest.at c.args.bytes.now)

pub run_rest-requires-clause-few : goal.run_rest-requires-clause-few
run_rest-requires-clause-few g c =
    let h = c.in-Rest.ensures c.args.tail in omega (arith, c.requires.few, h.within, h.numbered, h.lines.steps)

pub slice_bounds-run_rest-count : goal.slice_bounds-run_rest-count
slice_bounds-run_rest-count g c = (c.in-Rest.ensures c.args.tail).within

pub slice_bounds-run_rest-start : goal.slice_bounds-run_rest-start
slice_bounds-run_rest-start g c = let within : c.in-Rest.at ≤ length c.args.bytes.now = (c.in-Rest.ensures c.args.tail).within in search rules

pub run_rest-requires-clause-one : goal.run_rest-requires-clause-one
run_rest-requires-clause-one g c = rw take_rest (c.in-Rest.ensures c.args.tail).one

pub run_rest-requires-clause-goes_on : goal.run_rest-requires-clause-goes_on
run_rest-requires-clause-goes_on g c = (c.in-Rest.ensures c.args.tail).lines.goes_on

pub returns-in-Rest : goal.returns-in-Rest
returns-in-Rest g c = ran_behind _ (sym (take-append-drop c.in-Rest.at c.args.bytes.now)) (c.in-Rest.ensures c.args.tail).lines (rw take_rest at c.run_rest.ensures)

pub returns-in-Ended : goal.returns-in-Ended
returns-in-Ended g c = ran_ended c.requires.near (c.in-Ended.ensures c.args.tail) c.end_by_script.ensures

pub returns-in-Broken : goal.returns-in-Broken
returns-in-Broken g c = ran_broken c.requires.near (c.in-Broken.ensures c.args.tail) c.end_broken.ensures

pub returns-in-SinkFault : goal.returns-in-SinkFault
returns-in-SinkFault g c = ran_cut (c.in-SinkFault.ensures c.args.tail)

pub returns-in-Memory : goal.returns-in-Memory
returns-in-Memory g c = ran_starved (c.in-Memory.ensures c.args.tail) c.end_starved.ensures
