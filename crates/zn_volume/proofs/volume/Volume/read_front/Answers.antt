use Rattle.std.proofs.Common.{sym, ap, ◌∙◌}
use Rattle.std.specs.Prelude.{option_map}
use Rattle.zn_model.specs.Reading.{reading_refusal}
use Rattle.zn_model.specs.Volume.{live_at}
use Rattle.zn_handle.specs.HandleState.{open_of}
use Rattle.zn_volume.specs.VolumeState.{VolumeState, mounted_in}
use Rattle.zn_volume.proofs.Refusing.{live_refused}
use Rattle.zn_volume.proofs.volume.Volume.read_front.Goals as goal

pub returns-in-Some-clause-refused : goal.returns-in-Some-clause-refused
returns-in-Some-clause-refused g c = live_refused (mounted_in c.args.self.now) (live_at c.args.self.now.volume.handles c.args.h) c.in-Some.on (λ live. reading_refusal c.args.self.now.volume live c.args.offset) c.front_by.result
    (sym (ap (λ (s : VolumeState). s.device.world.powered) c.self.view_is) ∙ sym c.powered.ensures ∙ c.if-not-powered.false)
    (c.in-Some.ensures.open ∙ ap (λ (s : VolumeState). option_map open_of (live_at s.volume.handles c.args.h)) c.self.view_is)
    c.front_by.ensures.refused
