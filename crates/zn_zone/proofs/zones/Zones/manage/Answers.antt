use Rattle.zn_zone.proofs.CarriedOut.{manage_carried_out}
use Rattle.zn_zone.proofs.zones.Zones.manage.Goals as goal

pub invariant_of-self : goal.invariant_of-self
invariant_of-self c =
    (manage_carried_out _ _ _ _ _ _ c.self.view_is c.self.invariant c.requires.zone c.requires.kind c.manage_at.ensures.reply c.manage_at.ensures.ok c.manage_at.ensures.err).sound

pub returns-clause-refused : goal.returns-clause-refused
returns-clause-refused c =
    (manage_carried_out _ _ _ _ _ _ c.self.view_is c.self.invariant c.requires.zone c.requires.kind c.manage_at.ensures.reply c.manage_at.ensures.ok c.manage_at.ensures.err).refused

pub returns-clause-facts : goal.returns-clause-facts
returns-clause-facts c =
    (manage_carried_out _ _ _ _ _ _ c.self.view_is c.self.invariant c.requires.zone c.requires.kind c.manage_at.ensures.reply c.manage_at.ensures.ok c.manage_at.ensures.err).facts

pub returns-clause-geometry : goal.returns-clause-geometry
returns-clause-geometry c =
    (manage_carried_out _ _ _ _ _ _ c.self.view_is c.self.invariant c.requires.zone c.requires.kind c.manage_at.ensures.reply c.manage_at.ensures.ok c.manage_at.ensures.err).geometry

pub returns-clause-sound : goal.returns-clause-sound
returns-clause-sound c =
    (manage_carried_out _ _ _ _ _ _ c.self.view_is c.self.invariant c.requires.zone c.requires.kind c.manage_at.ensures.reply c.manage_at.ensures.ok c.manage_at.ensures.err).sound
