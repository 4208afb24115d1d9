use Rattle.std.proofs.Common.{ap, ◌∙◌, arith}
use Rattle.zn_truth.specs.World.{geometry_of}
use Rattle.zn_device.specs.States.{DeviceState}
use Rattle.zn_volume.proofs.Keeping.{agrees_on}
use Rattle.zn_volume.proofs.Powering.{powered_geometry}
use Rattle.zn_volume.proofs.volume.Volume.power_on.Goals as goal

pub invariant_of-self : goal.invariant_of-self
invariant_of-self g c =
    agrees_on (g.D.Zoned.state c.self.inside.dev).world _ _ _ _ _ _ _
    (ap (λ (s : DeviceState). geometry_of s.world) c.power_on.ensures ∙ powered_geometry (g.D.Zoned.state c.self.inside.dev).world) (omega arith) c.self.invariant
