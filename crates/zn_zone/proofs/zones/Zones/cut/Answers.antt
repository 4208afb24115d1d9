use Rattle.std.proofs.Common.{ap}
use Rattle.zn_zone.specs.Machine.{machine}
use Rattle.zn_zone.proofs.Moved.{cut_moved}
use Rattle.zn_zone.proofs.zones.Zones.cut.Goals as goal

pub invariant_of-self : goal.invariant_of-self
invariant_of-self c = (cut_moved _ _ _ _ _ c.self.view_is c.self.invariant c.requires.zone c.requires.kind c.requires.held c.requires.place (ap (machine c.self.inside.shape) c.cut_at.ensures)).sound

pub returns-clause-facts : goal.returns-clause-facts
returns-clause-facts c = (cut_moved _ _ _ _ _ c.self.view_is c.self.invariant c.requires.zone c.requires.kind c.requires.held c.requires.place (ap (machine c.self.inside.shape) c.cut_at.ensures)).facts

pub returns-clause-geometry : goal.returns-clause-geometry
returns-clause-geometry c = (cut_moved _ _ _ _ _ c.self.view_is c.self.invariant c.requires.zone c.requires.kind c.requires.held c.requires.place (ap (machine c.self.inside.shape) c.cut_at.ensures)).geometry

pub returns-clause-sound : goal.returns-clause-sound
returns-clause-sound c = (cut_moved _ _ _ _ _ c.self.view_is c.self.invariant c.requires.zone c.requires.kind c.requires.held c.requires.place (ap (machine c.self.inside.shape) c.cut_at.ensures)).sound
