use Rattle.zn_zone.proofs.CarriedOut.{write_carried_out}
use Rattle.zn_zone.proofs.zones.Zones.write.Goals as goal

pub invariant_of-self : goal.invariant_of-self
invariant_of-self c =
    (write_carried_out _ _ _ _ _ _ _ c.self.view_is c.self.invariant c.requires.zone c.requires.some c.requires.room c.write_at.ensures.reply c.write_at.ensures.ok c.write_at.ensures.err).sound

pub returns-clause-refused : goal.returns-clause-refused
returns-clause-refused c =
    (write_carried_out _ _ _ _ _ _ _ c.self.view_is c.self.invariant c.requires.zone c.requires.some c.requires.room c.write_at.ensures.reply c.write_at.ensures.ok c.write_at.ensures.err).refused

pub returns-clause-facts : goal.returns-clause-facts
returns-clause-facts c =
    (write_carried_out _ _ _ _ _ _ _ c.self.view_is c.self.invariant c.requires.zone c.requires.some c.requires.room c.write_at.ensures.reply c.write_at.ensures.ok c.write_at.ensures.err).facts

pub returns-clause-geometry : goal.returns-clause-geometry
returns-clause-geometry c =
    (write_carried_out _ _ _ _ _ _ _ c.self.view_is c.self.invariant c.requires.zone c.requires.some c.requires.room c.write_at.ensures.reply c.write_at.ensures.ok c.write_at.ensures.err).geometry

pub returns-clause-sound : goal.returns-clause-sound
returns-clause-sound c =
    (write_carried_out _ _ _ _ _ _ _ c.self.view_is c.self.invariant c.requires.zone c.requires.some c.requires.room c.write_at.ensures.reply c.write_at.ensures.ok c.write_at.ensures.err).sound
