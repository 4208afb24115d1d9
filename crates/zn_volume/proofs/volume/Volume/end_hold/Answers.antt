use Rattle.std.proofs.Common.{◌≡◌, ◌<◌, length, Ok, Err, refl, sym, ap, ◌∙◌, subst}
use Rattle.zn_truth.specs.declared.ZoneOp.TheVariants.{Close}
use Rattle.zn_truth.specs.Orders.{Manage}
use Rattle.zn_device.specs.States.{DeviceState, Commanded}
use Rattle.zn_device.proofs.Ordered.{ordered_one}
use Rattle.zn_model.specs.declared.files.FileZones.{FileZones}
use Rattle.zn_model.specs.Volume.{file_at, shown_at}
use Rattle.zn_model.specs.ZoneFiles.{files_of}
use Rattle.zn_volume.specs.Causes.{CallCause}
use Rattle.zn_volume.specs.VolumeState.{VolumeState}
use Rattle.zn_volume.proofs.Causing.{answered_caused, failed_caused}
use Rattle.zn_volume.proofs.IoErrors.{manage_cause, failed_io}
use Rattle.zn_volume.proofs.volume.Volume.end_hold.Goals as goal

-- a note of what is held open leaves the device
pub returns-in-Ok-clause-cause : goal.returns-in-Ok-clause-cause
returns-in-Ok-clause-cause g c =
    subst (λ (s : DeviceState). CallCause {X = Unit {0}} (Ok tt) s (g.D.Zoned.state c.manage.new.self)) (ap (λ (s : VolumeState). s.device) (c.self-2.view_is ∙ c.hold_open.ensures))
    (answered_caused _ (Ok tt) (Ok tt) _ _ (ordered_one _ _ _ _ c.in-Ok.ensures.done) refl refl)

pub returns-in-Err-clause-cause : goal.returns-in-Err-clause-cause
returns-in-Err-clause-cause g c =
    subst (λ (s : DeviceState). CallCause {X = Unit {0}} (Err c.recover.result) s c.recover.new.self.device) (ap (λ (s : VolumeState). s.device) (c.self-2.view_is ∙ c.hold_open.ensures))
    (failed_caused _ _ _ _ _ _ c.recover.ensures.cause (ordered_one _ _ _ _ c.in-Err.ensures.done))

pub returns-in-Err-clause-io_error : goal.returns-in-Err-clause-io_error
returns-in-Err-clause-io_error g c =
    let D = g.D.Zoned in
    let inodes = c.self.inside.inodes in
    let known = subst (λ (s : VolumeState). c.args.f < length (files_of s.volume.inodes.layout)) (sym c.self.view_is) c.requires.known in
    let same : g.D.Zoned.state c.self-2.inside.dev ≡ g.D.Zoned.state c.self.inside.dev =
    ap (λ (s : VolumeState). s.device) (c.self-2.view_is ∙ c.hold_open.ensures) ∙ sym (ap (λ (s : VolumeState). s.device) c.self.view_is) in
    let here = subst (λ (s : DeviceState). Commanded (Manage c.file.result.first Close) (Err c.in-Err.error) s (g.D.Zoned.state c.manage.new.self)) same c.in-Err.ensures.done in
    let done = subst (λ (file : FileZones). Commanded (Manage file.first Close) (Err c.in-Err.error) (g.D.Zoned.state c.self.inside.dev) (g.D.Zoned.state c.manage.new.self)) c.file.ensures here in
    rw (← c.self.view_is) (failed_io c.in-Err.error c.recover.result c.self.inside.inodes c.args.f (D.state c.self.inside.dev) (D.state c.manage.new.self) c.recover.new.self.device c.recover.ensures.cause
    (manage_cause c.in-Err.error Close (file_at inodes c.args.f) (shown_at inodes c.args.f) _ _ (c.self.invariant.files c.args.f known) done))
