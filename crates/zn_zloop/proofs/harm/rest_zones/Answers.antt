use Rattle.zn_zone.specs.Machine.{facts}
use Rattle.zn_zloop.proofs.Resting.{rest_truth, rest_device}
use Rattle.zn_zloop.proofs.harm.rest_zones.Goals as goal

pub returns-clause-truth : goal.returns-clause-truth
returns-clause-truth c = λ o kepts. rest_truth o (facts c.args.zones.now) (facts c.rest.new.self) kepts c.rest.ensures.facts

pub returns-clause-device : goal.returns-clause-device
returns-clause-device c = λ o kepts listed device. rest_device o (facts c.args.zones.now) (facts c.rest.new.self) kepts listed c.rest.ensures.facts device
