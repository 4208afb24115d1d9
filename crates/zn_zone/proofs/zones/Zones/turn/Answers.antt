use Rattle.std.proofs.Common.{ap}
use Rattle.zn_zone.specs.Machine.{machine}
use Rattle.zn_zone.proofs.Moved.{turned_moved}
use Rattle.zn_zone.proofs.zones.Zones.turn.Goals as goal

pub invariant_of-self : goal.invariant_of-self
invariant_of-self c = (turned_moved _ _ _ _ _ c.self.view_is c.self.invariant c.requires.zone c.requires.worse (ap (machine c.self.inside.shape) c.turn_at.ensures)).sound

pub returns-clause-facts : goal.returns-clause-facts
returns-clause-facts c = (turned_moved _ _ _ _ _ c.self.view_is c.self.invariant c.requires.zone c.requires.worse (ap (machine c.self.inside.shape) c.turn_at.ensures)).facts

pub returns-clause-geometry : goal.returns-clause-geometry
returns-clause-geometry c = (turned_moved _ _ _ _ _ c.self.view_is c.self.invariant c.requires.zone c.requires.worse (ap (machine c.self.inside.shape) c.turn_at.ensures)).geometry

pub returns-clause-sound : goal.returns-clause-sound
returns-clause-sound c = (turned_moved _ _ _ _ _ c.self.view_is c.self.invariant c.requires.zone c.requires.worse (ap (machine c.self.inside.shape) c.turn_at.ensures)).sound
