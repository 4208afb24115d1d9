use Rattle.std.proofs.Common.{◌≡◌, ◌-◌, ◌≤◌, length, take}
use Rattle.zn_base.specs.Told.{Grew}
use Rattle.zn_base.proofs.texts.write_all.Given as goal

-- the bytes so far are written, and no write failed
abbrev pub invariant-loop-at : goal.invariant-loop-at
invariant-loop-at g l = record {
  within : l.at ≤ length l.bytes;
  grew : Grew (g.K.Sink.state l.fn.sink).written (g.K.Sink.state l.sink).written (take l.at l.bytes);
  kept : (g.K.Sink.state l.sink).faults ≡ (g.K.Sink.state l.fn.sink).faults;
}

abbrev pub decreases-loop-at : goal.decreases-loop-at
decreases-loop-at g l = length l.bytes - l.at
