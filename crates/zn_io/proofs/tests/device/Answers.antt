use Rattle.std.proofs.Common.{lit≤}
use Rattle.zn_truth.specs.declared.Shape.{Shape}
use Rattle.zn_device.specs.Memory.{state_of}
use Rattle.zn_io.proofs.NewDevices.{second_file}
use Rattle.zn_io.proofs.tests.device.Goals as goal

pub returns : goal.returns
returns c =
    let shape : Shape = record { zone_blocks = 2; zone_capacity = 2; max_open = 0; max_active = 0 } in
    second_file shape (state_of c.in_ok-new.field-0) c.in_ok-new.ensures (lit≤ tt) (lit≤ tt)
