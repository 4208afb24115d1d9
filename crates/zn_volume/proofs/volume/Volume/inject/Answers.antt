use Rattle.std.proofs.Common.{ap, ◌∙◌, arith}
use Rattle.zn_truth.specs.World.{geometry_of}
use Rattle.zn_device.specs.States.{DeviceState}
use Rattle.zn_volume.proofs.Keeping.{agrees_on, injected_geometry}
use Rattle.zn_volume.proofs.volume.Volume.inject.Goals as goal

pub invariant_of-self : goal.invariant_of-self
invariant_of-self g c =
    agrees_on (g.D.Zoned.state c.self.inside.dev).world _ _ _ _ _ _ _
    (ap (λ (s : DeviceState). geometry_of s.world) c.inject.ensures.waits ∙ injected_geometry (g.D.Zoned.state c.self.inside.dev).world c.args.fault) (omega arith) c.self.invariant
