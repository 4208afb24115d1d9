use Rattle.std.proofs.Common.{ap, ◌∙◌, arith}
use Rattle.zn_truth.specs.World.{geometry_of}
use Rattle.zn_device.specs.States.{DeviceState}
use Rattle.zn_volume.proofs.Keeping.{agrees_on}
use Rattle.zn_volume.proofs.Powering.{armed_geometry}
use Rattle.zn_volume.proofs.volume.Volume.arm_loss.Goals as goal

pub invariant_of-self : goal.invariant_of-self
invariant_of-self g c =
    agrees_on (g.D.Zoned.state c.self.inside.dev).world _ _ _ _ _ _ _
    (ap (λ (s : DeviceState). geometry_of s.world) c.arm_loss.ensures.waits ∙ armed_geometry (g.D.Zoned.state c.self.inside.dev).world _) (omega arith) c.self.invariant
