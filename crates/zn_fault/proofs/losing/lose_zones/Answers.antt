use Rattle.std.proofs.Common.{Ok, arith}
use Rattle.zn_truth.proofs.Issuing.{kinds-length}
use Rattle.zn_fault.proofs.LossSteps.{none_harmed, zone_harmed, all_harmed}
use Rattle.zn_fault.proofs.losing.lose_zones.Goals as goal

pub loop-z-init : goal.loop-z-init
loop-z-init g c = none_harmed c.args.loss.now (g.D.Zoned.state c.args.dev.now) c.requires

pub loop-z-preserved : goal.loop-z-preserved
loop-z-preserved g c =
    zone_harmed c.loop-z.z c.args.loss.now (Ok tt) (g.D.Zoned.state c.args.dev.now) (g.D.Zoned.state c.loop-z.dev) (g.D.Zoned.state c.lose_zone.new.dev) c.loop-z.invariant c.in_ok-lose_zone.ensures

pub returns : goal.returns
returns g c =
    all_harmed c.loop-z.z c.args.loss.now (g.D.Zoned.state c.args.dev.now) (g.D.Zoned.state c.loop-z.dev) (g.D.Zoned.state c.rest.new.self)
    (omega (arith, c.zones-z-end.ensures, kinds-length (g.D.Zoned.state c.args.dev.now).world)) c.loop-z.invariant c.rest.ensures
