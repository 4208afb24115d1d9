use Rattle.zn_zone.proofs.Truths.{joined-parts, facts_of-joined, stores_of-joined, stores_of-with_zone, done-joined}
use Rattle.zn_zone.proofs.laws.facts_and_stores.Goals as goal

pub returns-clause-truth : goal.returns-clause-truth
returns-clause-truth c = joined-parts

pub returns-clause-joined : goal.returns-clause-joined
returns-clause-joined c = λ told f stores h. (facts_of-joined told f stores h, stores_of-joined told f stores h)

pub returns-clause-stores : goal.returns-clause-stores
returns-clause-stores c = stores_of-with_zone

pub returns-clause-done : goal.returns-clause-done
returns-clause-done c = done-joined
