use Rattle.std.proofs.Common.{sym, subst, take, map}
use Rattle.zn_stand.specs.Directory.{Directory}
use Rattle.zn_files.specs.Replays.{replayed}
use Rattle.zn_files.specs.Traces.{TracesAll}
use Rattle.zn_files.proofs.ReplayLaws.{call_in, replayed-more, call_fits, taken_more, may_trace}
use Rattle.zn_files.proofs.replay.trace_until.Goals as goal

pub trace-requires : goal.trace-requires
trace-requires c =
    let d : Directory = replayed c.requires.from (map call_in (take c.loop-made.made-index c.args.recorded.now)) in
    may_trace c.loop-made.files d c.made-item.result.change (c.loop-made.invariant.so_far c.requires.from c.requires.traced)
    (call_fits call_in c.requires.from c.args.recorded.now c.loop-made.made-index c.made-item.result c.loop-made-test.true c.made-item.is c.requires.calls)

pub loop-made-preserved : goal.loop-made-preserved
loop-made-preserved c = record {
  so_far = λ d all. subst (TracesAll c.trace.new.files) (sym (replayed-more call_in d c.args.recorded.now c.loop-made.made-index c.made-item.result c.loop-made-test.true c.made-item.is))
      (c.in_ok-trace.ensures (replayed d (map call_in (take c.loop-made.made-index c.args.recorded.now))) (c.loop-made.invariant.so_far d all));
  among = taken_more c.args.recorded.now c.args.calls c.loop-made.made-index c.made-item.result c.loop-made-test.true c.made-item.is c.if-made-calls.false c.loop-made.invariant.among;
}
