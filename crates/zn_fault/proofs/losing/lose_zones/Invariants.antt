use Rattle.std.proofs.Common.{Ok}
use Rattle.zn_device.specs.Harms.{Harmed}
use Rattle.zn_fault.specs.Losses.{lost_below}
use Rattle.zn_fault.proofs.losing.lose_zones.Given as goal

-- the zones before the index lost what isn't durable
abbrev pub invariant-loop-z : goal.invariant-loop-z
invariant-loop-z g l = Harmed (lost_below l.z (g.D.Zoned.state l.fn.dev).world.truth l.loss) (Ok tt) (g.D.Zoned.state l.fn.dev) (g.D.Zoned.state l.dev)
