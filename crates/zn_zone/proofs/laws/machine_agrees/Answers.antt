use Rattle.zn_zone.proofs.Agrees.{count-geometry, answers-done, geometry-facts, active-sound, explicit-within}
use Rattle.zn_zone.proofs.laws.machine_agrees.Goals as goal

pub returns-clause-geometry : goal.returns-clause-geometry
returns-clause-geometry c = geometry-facts

pub returns-clause-active_count : goal.returns-clause-active_count
returns-clause-active_count c = active-sound

pub returns-clause-explicit : goal.returns-clause-explicit
returns-clause-explicit c = explicit-within

pub returns-clause-answers : goal.returns-clause-answers
returns-clause-answers c = answers-done

pub returns-clause-zone_count : goal.returns-clause-zone_count
returns-clause-zone_count c = count-geometry
