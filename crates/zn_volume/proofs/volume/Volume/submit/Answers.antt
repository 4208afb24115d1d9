use Rattle.std.proofs.Common.{length, sym, ap, ◌∙◌}
use Rattle.std.specs.Prelude.{option_map}
use Rattle.zn_model.specs.Requests.{submitting_refusal}
use Rattle.zn_model.specs.Volume.{live_at}
use Rattle.zn_handle.specs.HandleState.{open_of}
use Rattle.zn_volume.specs.VolumeState.{VolumeState, mounted_in}
use Rattle.zn_volume.proofs.Refusing.{live_refused}
use Rattle.zn_volume.proofs.Carrying.{submit_reply, submit_mounted}
use Rattle.zn_volume.proofs.volume.Volume.submit.Goals as goal

pub returns-in-Some-clause-reply : goal.returns-in-Some-clause-reply
returns-in-Some-clause-reply g c = submit_reply (mounted_in c.args.self.now) c.args.h c.in-Some.on c.args.offset c.args.bytes.now c.submit_by.result
    (sym (ap (λ (s : VolumeState). s.device.world.powered) c.self.view_is) ∙ sym c.powered.ensures ∙ c.if-not-powered.false)
    (c.in-Some.ensures.open ∙ ap (λ (s : VolumeState). option_map open_of (live_at s.volume.handles c.args.h)) c.self.view_is)
    c.submit_by.ensures.reply

pub returns-in-Some-clause-mounted : goal.returns-in-Some-clause-mounted
returns-in-Some-clause-mounted g c = submit_mounted (mounted_in c.args.self.now) c.args.h c.in-Some.on c.args.offset c.args.bytes.now (mounted_in c.submit_by.new.self)
    (sym (ap (λ (s : VolumeState). s.device.world.powered) c.self.view_is) ∙ sym c.powered.ensures ∙ c.if-not-powered.false)
    (c.in-Some.ensures.open ∙ ap (λ (s : VolumeState). option_map open_of (live_at s.volume.handles c.args.h)) c.self.view_is)
    c.submit_by.ensures.mounted

pub returns-in-Some-clause-refused : goal.returns-in-Some-clause-refused
returns-in-Some-clause-refused g c = live_refused (mounted_in c.args.self.now) (live_at c.args.self.now.volume.handles c.args.h) c.in-Some.on (λ live. submitting_refusal c.args.self.now.volume live c.args.offset (length c.args.bytes.now)) c.submit_by.result
    (sym (ap (λ (s : VolumeState). s.device.world.powered) c.self.view_is) ∙ sym c.powered.ensures ∙ c.if-not-powered.false)
    (c.in-Some.ensures.open ∙ ap (λ (s : VolumeState). option_map open_of (live_at s.volume.handles c.args.h)) c.self.view_is)
    c.submit_by.ensures.refused
