use Rattle.std.proofs.Common.{take, map}
use Rattle.zn_stand.specs.Directory.{Directory}
use Rattle.zn_files.specs.Record.{call_of}
use Rattle.zn_files.specs.Replays.{replayed}
use Rattle.zn_files.specs.Traces.{TracesAll}
use Rattle.zn_files.proofs.replay.trace_all.Given as goal

-- the calls before the index are done
abbrev pub invariant-loop-change : goal.invariant-loop-change
invariant-loop-change l = record {
  so_far : (d : Directory) → TracesAll l.fn.files d → TracesAll l.files (replayed d (map call_of (take l.change-index l.changes)));
}
