use Rattle.std.proofs.Common.{Ok}
use Rattle.zn_truth.specs.OrderLists.{each_zone}
use Rattle.zn_model.specs.Pieces.{write_in, zone_from}
use Rattle.zn_device.specs.States.{Ordered}
use Rattle.zn_io.proofs.writing.write_pieces.Given as goal

-- the writes so far are done
abbrev pub invariant-loop-i : goal.invariant-loop-i
invariant-loop-i g l =
    let D = g.D.Zoned in
    record {
      done : Ordered (each_zone (write_in l.a l.bytes) (zone_from l.a) l.i) (Ok tt) (D.state l.fn.dev) (D.state l.dev);
    }
