use Rattle.std.proofs.Common.{Ok}
use Rattle.zn_truth.specs.Orders.{WriteAt}
use Rattle.zn_device.specs.States.{Commanded}
use Rattle.zn_fault.specs.Losses.{filled_with}
use Rattle.zn_fault.proofs.inside.write_filled.Given as goal

-- the blocks before the index are written, as one write
abbrev pub invariant-loop-i : goal.invariant-loop-i
invariant-loop-i g l = Commanded (WriteAt l.z.0 l.at (filled_with l.i l.byte)) (Ok tt) (g.D.Zoned.state l.fn.dev) (g.D.Zoned.state l.dev)
