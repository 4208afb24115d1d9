use Rattle.std.proofs.Common.{ap}
use Rattle.zn_zone.specs.Machine.{machine}
use Rattle.zn_zone.proofs.Moved.{rest_moved}
use Rattle.zn_zone.proofs.zones.Zones.rest.Goals as goal

pub invariant_of-self : goal.invariant_of-self
invariant_of-self c = (rest_moved _ _ _ c.self.view_is c.self.invariant (ap (machine c.self.inside.shape) c.rest_all.ensures)).sound

pub returns-clause-facts : goal.returns-clause-facts
returns-clause-facts c = (rest_moved _ _ _ c.self.view_is c.self.invariant (ap (machine c.self.inside.shape) c.rest_all.ensures)).facts

pub returns-clause-geometry : goal.returns-clause-geometry
returns-clause-geometry c = (rest_moved _ _ _ c.self.view_is c.self.invariant (ap (machine c.self.inside.shape) c.rest_all.ensures)).geometry

pub returns-clause-sound : goal.returns-clause-sound
returns-clause-sound c = (rest_moved _ _ _ c.self.view_is c.self.invariant (ap (machine c.self.inside.shape) c.rest_all.ensures)).sound
