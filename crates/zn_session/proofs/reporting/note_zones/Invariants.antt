use Rattle.zn_session.specs.SessionState.{held_by}
use Rattle.zn_session.proofs.ToldZones.{AreNoted}
use Rattle.zn_session.proofs.reporting.note_zones.Given as goal

-- the zones so far are noted
abbrev pub invariant-loop-z : goal.invariant-loop-z
invariant-loop-z g l = record {
  noted : AreNoted (held_by g.D.Zoned.state l.held) l.infos l.zones l.z;
}
