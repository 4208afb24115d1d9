use Rattle.std.proofs.Common.{◌≡◌, ◌*◌, take, true, Ok}
use Rattle.zn_truth.specs.OrderLists.{each_zone}
use Rattle.zn_model.specs.Pieces.{read_in, each_bytes, bytes_in, zone_from, blocks_before}
use Rattle.zn_device.specs.States.{Ordered}
use Rattle.zn_io.proofs.reading.read_pieces.Given as goal

-- the reads so far are done, and what was read stands in front
abbrev pub invariant-loop-i : goal.invariant-loop-i
invariant-loop-i g l =
    let D = g.D.Zoned in
    record {
      done : Ordered (each_zone (read_in l.a) (zone_from l.a) l.i) (Ok tt) (D.state l.fn.dev) (D.state l.dev);
      truth : (D.state l.dev).world.truth ≡ (D.state l.fn.dev).world.truth;
      read : (D.state l.fn.dev).world.truth.told ≡ true → take (4096 * blocks_before l.a l.i) l.out ≡ each_bytes (bytes_in (D.state l.fn.dev).world.truth l.a) (zone_from l.a) l.i;
    }
