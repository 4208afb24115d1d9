use Rattle.std.proofs.Common.{◌≡◌, ◌≤◌, ◌-◌, length}
use Rattle.zn_runs.proofs.RestLaws.{RestLeft}
use Rattle.zn_runs.proofs.runs.write_runs.Given as goal

-- the runs before this place are written, and no write failed
abbrev pub invariant-loop-at : goal.invariant-loop-at
invariant-loop-at g l = record {
  within : l.at ≤ length l.bytes;
  left : RestLeft (g.K.Sink.state l.fn.sink).written (g.K.Sink.state l.sink).written l.bytes l.at;
  kept : (g.K.Sink.state l.sink).faults ≡ (g.K.Sink.state l.fn.sink).faults;
}

abbrev pub decreases-loop-at : goal.decreases-loop-at
decreases-loop-at g l = length l.bytes - l.at
