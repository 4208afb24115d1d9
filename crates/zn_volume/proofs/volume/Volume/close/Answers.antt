use Rattle.std.proofs.Common.{sym, ap, ◌∙◌, true, false, Err}
use Rattle.std.specs.Prelude.{option_map}
use Rattle.zn_model.specs.declared.answers.Refusal.TheVariants.{Busy}
use Rattle.zn_model.specs.Volume.{live_at, is_queued_through}
use Rattle.zn_handle.specs.HandleState as handles
use Rattle.zn_volume.specs.VolumeState.{VolumeState, mounted_in}
use Rattle.zn_volume.proofs.Closings.{closed, busy_closed, close_refused, busy_refused, unbusy_refused}
use Rattle.zn_volume.proofs.volume.Volume.close.Goals as goal

pub returns-in-Some-clause-reply : goal.returns-in-Some-clause-reply
returns-in-Some-clause-reply g c = λ unspoilt.
    (busy_closed _ _ c.args.h c.in-Some.field-0 _ c.self.view_is (sym c.powered.ensures) c.if-not-powered.false (sym c.in-Some.ensures.open) (ap (λ (s : VolumeState). is_queued_through s.volume.queue c.args.h) c.self.view_is ∙ sym c.waits_through.ensures ∙ c.if-waits_through.true)).reply

pub returns-in-Some-clause-mounted : goal.returns-in-Some-clause-mounted
returns-in-Some-clause-mounted g c = λ unspoilt.
    (busy_closed _ _ c.args.h c.in-Some.field-0 _ c.self.view_is (sym c.powered.ensures) c.if-not-powered.false (sym c.in-Some.ensures.open) (ap (λ (s : VolumeState). is_queued_through s.volume.queue c.args.h) c.self.view_is ∙ sym c.waits_through.ensures ∙ c.if-waits_through.true)).mounted

pub returns-in-Some-clause-refused : goal.returns-in-Some-clause-refused
returns-in-Some-clause-refused g c = close_refused (mounted_in c.args.self.now) c.args.h c.in-Some.field-0 true (Err Busy)
    (sym (ap (λ (s : VolumeState). s.device.world.powered) c.self.view_is) ∙ sym c.powered.ensures ∙ c.if-not-powered.false)
    (c.in-Some.ensures.open ∙ ap (λ (s : VolumeState). option_map handles.open_of (live_at s.volume.handles c.args.h)) c.self.view_is)
    (sym c.waits_through.ensures ∙ c.if-waits_through.true) busy_refused

pub returns-in-Some-2-clause-reply : goal.returns-in-Some-2-clause-reply
returns-in-Some-2-clause-reply g c = λ unspoilt.
    (closed _ _ c.args.h c.in-Some.field-0 _ _ _ _ c.self.view_is (sym c.powered.ensures) c.if-not-powered.false (sym c.in-Some.ensures.open) (ap (λ (s : VolumeState). is_queued_through s.volume.queue c.args.h) c.self.view_is ∙ sym c.waits_through.ensures ∙ c.if-waits_through.false)
    (ap (λ (s : handles.HandleState). s.handles) c.remove.ensures.rest) (c.close_zone.ensures.closed unspoilt)).reply

pub returns-in-Some-2-clause-mounted : goal.returns-in-Some-2-clause-mounted
returns-in-Some-2-clause-mounted g c = λ unspoilt.
    (closed _ _ c.args.h c.in-Some.field-0 _ _ _ _ c.self.view_is (sym c.powered.ensures) c.if-not-powered.false (sym c.in-Some.ensures.open) (ap (λ (s : VolumeState). is_queued_through s.volume.queue c.args.h) c.self.view_is ∙ sym c.waits_through.ensures ∙ c.if-waits_through.false)
    (ap (λ (s : handles.HandleState). s.handles) c.remove.ensures.rest) (c.close_zone.ensures.closed unspoilt)).mounted

pub returns-in-Some-2-clause-refused : goal.returns-in-Some-2-clause-refused
returns-in-Some-2-clause-refused g c = close_refused (mounted_in c.args.self.now) c.args.h c.in-Some.field-0 false c.close_zone.result
    (sym (ap (λ (s : VolumeState). s.device.world.powered) c.self.view_is) ∙ sym c.powered.ensures ∙ c.if-not-powered.false)
    (c.in-Some.ensures.open ∙ ap (λ (s : VolumeState). option_map handles.open_of (live_at s.volume.handles c.args.h)) c.self.view_is)
    (sym c.waits_through.ensures ∙ c.if-waits_through.false) (unbusy_refused c.close_zone.result c.close_zone.ensures.failure)
