use Rattle.std.proofs.Common.{◌≡◌, ◌++◌, take, drop, map}
use Rattle.std.specs.Prelude.{nat_le}
use Rattle.std.specs.List.{take_while}
use Rattle.zn_stand.specs.Directory.{Directory}
use Rattle.zn_files.specs.Record.{call_of}
use Rattle.zn_files.specs.Replays.{replayed}
use Rattle.zn_files.specs.Traces.{TracesAll}
use Rattle.zn_files.proofs.replay.trace_until.Given as goal

-- the calls before the index are done, and each of them is among so many
abbrev pub invariant-loop-made : goal.invariant-loop-made
invariant-loop-made l = record {
  so_far : (d : Directory) → TracesAll l.fn.files d → TracesAll l.files (replayed d (map (λ r. call_of r.change) (take l.made-index l.recorded)));
  among : take_while (λ r. nat_le r.number l.calls) l.recorded ≡ take l.made-index l.recorded ++ take_while (λ r. nat_le r.number l.calls) (drop l.made-index l.recorded);
}
