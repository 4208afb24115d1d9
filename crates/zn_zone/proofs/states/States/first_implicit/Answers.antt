use Rattle.std.proofs.Common.{◌∙◌, ap}
use Rattle.zn_zone.specs.Machine.{first_implicit}
use Rattle.zn_zone.proofs.KeptLaws.{first_mark}
use Rattle.zn_zone.proofs.states.States.first_implicit.Goals as goal

pub returns : goal.returns
returns c = c.lowest.ensures
    ∙ first_mark c.self.inside.zones.items c.self.inside.implicit c.self.invariant.implicit
    ∙ ap first_implicit c.self.view_is
