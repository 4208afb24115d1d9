use Rattle.std.proofs.Common.{refl}
use Rattle.zn_truth.specs.Orders.{Manage}
use Rattle.zn_fault.proofs.Shortened.{lost_during}
use Rattle.zn_fault.proofs.inside.lose_in_manage.Goals as goal

pub returns : goal.returns
returns g c =
    lost_during (Manage c.args.z.0 c.args.op) c.args.armed.now _ c.lose_zones.result (g.D.Zoned.state c.args.dev.now) (g.D.Zoned.state c.manage_during.new.dev) (g.D.Zoned.state c.lose_zones.new.dev)
    refl c.in_ok-manage_during.ensures c.lose_zones.ensures
