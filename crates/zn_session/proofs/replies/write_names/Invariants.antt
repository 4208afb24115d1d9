use Rattle.std.proofs.Common.{◌≡◌}
use Rattle.zn_base.specs.Told.{Grew}
use Rattle.zn_session.proofs.ReplyLaws.{names_so_far}
use Rattle.zn_session.proofs.replies.write_names.Given as goal

-- the names so far are written, and no write failed
abbrev pub invariant-loop-name : goal.invariant-loop-name
invariant-loop-name g l = record {
  grew : Grew (g.K.Sink.state l.fn.sink).written (g.K.Sink.state l.sink).written (names_so_far l.count l.name);
  kept : (g.K.Sink.state l.sink).faults ≡ (g.K.Sink.state l.fn.sink).faults;
}
