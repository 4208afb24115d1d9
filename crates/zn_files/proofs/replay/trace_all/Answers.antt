use Rattle.std.proofs.Common.{sym, subst, take, map}
use Rattle.zn_stand.specs.Directory.{Directory}
use Rattle.zn_files.specs.Record.{call_of}
use Rattle.zn_files.specs.Replays.{replayed}
use Rattle.zn_files.specs.Traces.{TracesAll}
use Rattle.zn_files.proofs.ReplayLaws.{replayed-more, call_fits, may_trace}
use Rattle.zn_files.proofs.replay.trace_all.Goals as goal

pub trace-requires : goal.trace-requires
trace-requires c =
    let d : Directory = replayed c.requires.from (map call_of (take c.loop-change.change-index c.args.changes.now)) in
    may_trace c.loop-change.files d c.change-item.result (c.loop-change.invariant.so_far c.requires.from c.requires.traced)
    (call_fits call_of c.requires.from c.args.changes.now c.loop-change.change-index c.change-item.result c.loop-change-test.true c.change-item.is c.requires.calls)

pub loop-change-preserved : goal.loop-change-preserved
loop-change-preserved c = record {
  so_far = λ d all. subst (TracesAll c.trace.new.files) (sym (replayed-more call_of d c.args.changes.now c.loop-change.change-index c.change-item.result c.loop-change-test.true c.change-item.is))
      (c.in_ok-trace.ensures (replayed d (map call_of (take c.loop-change.change-index c.args.changes.now))) (c.loop-change.invariant.so_far d all));
}
