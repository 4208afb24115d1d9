use Rattle.std.proofs.Common.{ap, ◌∙◌}
use Rattle.zn_model.specs.Volume.{wro}
use Rattle.zn_volume.specs.VolumeState.{VolumeState}
use Rattle.zn_volume.proofs.Counting.{wro_alike}
use Rattle.zn_volume.proofs.volume.Volume.wro.Goals as goal

pub returns : goal.returns
returns g c =
    c.wro.ensures.count ∙ wro_alike (g.D.Zoned.state c.self.inside.dev).world _ _ _ _ _ c.self.invariant ∙ ap (λ (s : VolumeState). wro s.volume) c.self.view_is
