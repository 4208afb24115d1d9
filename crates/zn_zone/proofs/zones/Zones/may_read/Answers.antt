use Rattle.zn_zone.proofs.Refusals.{read_answered}
use Rattle.zn_zone.proofs.zones.Zones.may_read.Goals as goal

pub returns : goal.returns
returns c = read_answered _ _ _ _ _ c.read_to.ensures c.self.view_is
