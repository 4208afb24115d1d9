use Rattle.std.proofs.Common.{Ok}
use Rattle.zn_truth.specs.World.{geometry_of}
use Rattle.zn_device.specs.States.{Ordered}
use Rattle.zn_mkfs.specs.Plans.{resets_below}
use Rattle.zn_mkfs.proofs.resets.reset_others.Given as goal

-- the resets so far are done
abbrev pub invariant-loop-z : goal.invariant-loop-z
invariant-loop-z g l =
    let D = g.D in
    record {
      done : Ordered (resets_below (geometry_of (D.Zoned.state l.fn.dev).world) l.infos l.z) (Ok tt) (D.Zoned.state l.fn.dev) (D.Zoned.state l.dev);
    }
