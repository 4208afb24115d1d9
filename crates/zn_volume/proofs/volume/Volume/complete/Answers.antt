use Rattle.std.proofs.Common.{sym, ap, ◌∙◌}
use Rattle.zn_volume.specs.VolumeState.{VolumeState, mounted_in}
use Rattle.zn_volume.proofs.Carrying.{complete_refused}
use Rattle.zn_volume.proofs.volume.Volume.complete.Goals as goal

pub returns-clause-refused : goal.returns-clause-refused
returns-clause-refused g c = complete_refused (mounted_in c.args.self.now) c.complete_by.result
    (sym (ap (λ (s : VolumeState). s.device.world.powered) c.self.view_is) ∙ sym c.powered.ensures ∙ c.if-not-powered.false)
    c.complete_by.ensures.none c.complete_by.ensures.failure
