use Rattle.std.proofs.Common.{sym}
use Rattle.zn_fault.proofs.LossSteps.{scrub_lost}
use Rattle.zn_fault.proofs.losing.lose_zone.Goals as goal

pub returns-in-Conventional : goal.returns-in-Conventional
returns-in-Conventional g c = scrub_lost c.args.z.0 c.args.loss.now c.scrub.result (g.D.Zoned.state c.args.dev.now) (g.D.Zoned.state c.scrub.new.self) (sym c.in-Conventional.ensures) c.scrub.ensures
