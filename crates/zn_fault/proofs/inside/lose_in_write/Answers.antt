use Rattle.zn_truth.specs.Orders.{WriteAt}
use Rattle.zn_fault.proofs.Shortened.{write_is_during, lost_during}
use Rattle.zn_fault.proofs.inside.lose_in_write.Goals as goal

pub returns : goal.returns
returns g c =
    lost_during (WriteAt c.args.z.0 c.args.at c.args.bytes.now) c.args.armed.now _ c.lose_zones.result (g.D.Zoned.state c.args.dev.now) (g.D.Zoned.state c.write_during.new.dev) (g.D.Zoned.state c.lose_zones.new.dev)
    (write_is_during (g.D.Zoned.state c.args.dev.now).world.truth c.args.z.0 c.args.at c.args.bytes.now c.args.armed.now.carried_out c.args.armed.now.loss) c.in_ok-write_during.ensures c.lose_zones.ensures
