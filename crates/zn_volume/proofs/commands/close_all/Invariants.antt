use Rattle.std.proofs.Common.{Ok}
use Rattle.zn_device.specs.States.{Ordered}
use Rattle.zn_volume.specs.MountSteps.{closes_from}
use Rattle.zn_volume.proofs.commands.close_all.Given as goal

-- the closes so far are done
abbrev pub invariant-loop-z : goal.invariant-loop-z
invariant-loop-z g l =
    let D = g.D.Zoned in
    record {
      done : Ordered (closes_from l.infos 0 l.z) (Ok tt) (D.state l.fn.dev) (D.state l.dev);
    }
