use Rattle.std.proofs.Common.{◌≡◌}
use Rattle.zn_base.specs.Told.{Grew}
use Rattle.zn_session.proofs.ReplyLaws.{zones_so_far}
use Rattle.zn_session.proofs.replies.write_zones.Given as goal

-- the zones so far are written, and no write failed
abbrev pub invariant-loop-z : goal.invariant-loop-z
invariant-loop-z g l = record {
  grew : Grew (g.K.Sink.state l.fn.sink).written (g.K.Sink.state l.sink).written (zones_so_far l.zones l.z);
  kept : (g.K.Sink.state l.sink).faults ≡ (g.K.Sink.state l.fn.sink).faults;
}
