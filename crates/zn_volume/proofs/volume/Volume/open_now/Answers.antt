use Rattle.std.proofs.Common.{◌≡◌, ◌<◌, length, Ok, Err, refl, sym, ap, ◌∙◌, subst}
use Rattle.zn_truth.specs.declared.ZoneOp.TheVariants.{Open}
use Rattle.zn_truth.specs.Orders.{Manage}
use Rattle.zn_device.specs.States.{DeviceState, Commanded}
use Rattle.zn_device.proofs.Ordered.{ordered_one}
use Rattle.zn_model.specs.declared.answers.Refusal.{Refusal}
use Rattle.zn_model.specs.declared.files.FileZones.{FileZones}
use Rattle.zn_model.specs.declared.handles.Handle.{Handle}
use Rattle.zn_model.specs.Volume.{file_at, shown_at}
use Rattle.zn_model.specs.ZoneFiles.{files_of}
use Rattle.zn_volume.specs.Causes.{CallCause}
use Rattle.zn_volume.specs.IoErrors.{IoErrorCause}
use Rattle.zn_volume.specs.VolumeState.{VolumeState}
use Rattle.zn_volume.proofs.Causing.{answered_caused, told_caused, failed_caused}
use Rattle.zn_volume.proofs.IoErrors.{manage_cause, failed_io, limit_io}
use Rattle.zn_volume.proofs.volume.Volume.open_now.Goals as goal

-- notes of what is held open, and of the handle, leave the device
pub returns-in-Ok-clause-cause : goal.returns-in-Ok-clause-cause
returns-in-Ok-clause-cause g c =
    let after : c.insert-in-Ok.new.self.device ≡ g.D.Zoned.state c.manage.new.self =
    ap (λ (s : VolumeState). s.device) c.insert-in-Ok.ensures.volume ∙ ap (λ (s : VolumeState). s.device) c.hold_open.ensures in
    subst (λ (s : DeviceState). CallCause {X = Handle} (Ok c.insert-in-Ok.result) c.args.self.now.device s) (sym after)
    (rw (← c.self-2.view_is) (answered_caused _ (Ok tt) (Ok c.insert-in-Ok.result) _ _ (ordered_one _ _ _ _ c.in-Ok.ensures.done) refl refl))

pub returns-in-Err-clause-cause : goal.returns-in-Err-clause-cause
returns-in-Err-clause-cause g c =
    subst (λ (r : Refusal). CallCause {X = Handle} (Err r) c.args.self.now.device (g.D.Zoned.state c.manage.new.self)) (sym c.refusal.ensures.value)
    (rw (← c.self-2.view_is) (told_caused _ c.in-Err.error _ _ (ordered_one _ _ _ _ c.in-Err.ensures.done)))

pub returns-in-Err-2-clause-cause : goal.returns-in-Err-2-clause-cause
returns-in-Err-2-clause-cause g c = rw (← c.self-2.view_is) (failed_caused _ _ _ _ _ _ c.recover.ensures.cause (ordered_one _ _ _ _ c.in-Err.ensures.done))

pub returns-in-Err-clause-io_error : goal.returns-in-Err-clause-io_error
returns-in-Err-clause-io_error g c =
    subst (λ (r : Refusal). IoErrorCause {X = Handle} (Err r) c.args.self.now.volume.inodes c.args.f c.args.self.now.device (g.D.Zoned.state c.manage.new.self)) (sym c.refusal.ensures.value)
    (limit_io c.in-Err.error _ _ _ _ (sym c.is_limit.ensures ∙ c.if-is_limit.true))

pub returns-in-Err-2-clause-io_error : goal.returns-in-Err-2-clause-io_error
returns-in-Err-2-clause-io_error g c =
    let D = g.D.Zoned in
    let inodes = c.self-2.inside.inodes in
    let known = subst (λ (s : VolumeState). c.args.f < length (files_of s.volume.inodes.layout)) (sym c.self-2.view_is) c.requires.known in
    let done = subst (λ (file : FileZones). Commanded (Manage file.first Open) (Err c.in-Err.error) (g.D.Zoned.state c.self-2.inside.dev) (g.D.Zoned.state c.manage.new.self)) c.file.ensures c.in-Err.ensures.done in
    rw (← c.self-2.view_is) (failed_io c.in-Err.error c.recover.result c.self-2.inside.inodes c.args.f (D.state c.self-2.inside.dev) (D.state c.manage.new.self) c.recover.new.self.device c.recover.ensures.cause
    (manage_cause c.in-Err.error Open (file_at inodes c.args.f) (shown_at inodes c.args.f) _ _ (c.self-2.invariant.files c.args.f known) done))
