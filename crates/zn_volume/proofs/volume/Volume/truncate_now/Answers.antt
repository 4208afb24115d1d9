use Rattle.std.proofs.Common.{◌≡◌, ◌<◌, ◌≤◌, ℕ, true, false, Ok, Err, length, refl, sym, ap, subst, arith}
use Rattle.zn_device.specs.States.{Ordered}
use Rattle.zn_model.specs.declared.files.FileZones.{FileZones}
use Rattle.zn_model.specs.declared.files.Shown.{Shown}
use Rattle.zn_model.specs.Truncating.{truncate_orders}
use Rattle.zn_model.specs.Volume.{file_at, shown_at, capacity_at, is_queued}
use Rattle.zn_model.specs.ZoneFiles.{files_of}
use Rattle.zn_volume.specs.VolumeState.{VolumeState}
use Rattle.zn_volume.proofs.Causing.{answered_caused, failed_caused}
use Rattle.zn_volume.proofs.Keeping.{agrees_resized}
use Rattle.zn_volume.proofs.IoErrors.{truncate_fails, failed_io}
use Rattle.zn_volume.proofs.volume.Volume.truncate_now.Goals as goal

pub invariant_of-self-2 : goal.invariant_of-self-2
invariant_of-self-2 g c =
    let sequential = subst (λ (s : VolumeState). (file_at s.volume.inodes c.args.f).seq ≡ true) (sym c.self.view_is) c.requires.sequential in
    let below = subst (λ (s : VolumeState). c.args.size ≤ capacity_at s.volume.inodes c.args.f) (sym c.self.view_is) c.requires.size in
    let idle = subst (λ (s : VolumeState). is_queued s.volume.queue c.args.f ≡ false) (sym c.self.view_is) c.requires.idle in
    let size : c.truncate_file.new.shown.size ≡ c.args.size = ap (λ (s : Shown). s.size) c.in_default.ensures.shown in
    agrees_resized (g.D.Zoned.state c.self.inside.dev).world _ c.self.inside.inodes _ c.args.f c.truncate_file.new.shown _ c.self.inside.queue.queue _ _ _ c.in_default.ensures.done.obeys.geometry (omega arith) sequential idle c.set.ensures.set
    (c.set.ensures.within c.self.invariant.sizes (subst (λ (n : ℕ). n ≤ capacity_at c.self.inside.inodes c.args.f) (sym size) below)) c.self.invariant

pub returns-clause-cause : goal.returns-clause-cause
returns-clause-cause g c = rw (← c.self.view_is) (answered_caused _ (Ok tt) (Ok tt) _ _ c.in_default.ensures.done refl refl)

pub returns-in-Err-clause-cause : goal.returns-in-Err-clause-cause
returns-in-Err-clause-cause g c = rw (← c.self.view_is) (failed_caused _ _ _ _ _ _ c.recover.ensures.cause c.in-Err.ensures.done)

pub returns-in-Err-clause-io_error : goal.returns-in-Err-clause-io_error
returns-in-Err-clause-io_error g c =
    let D = g.D.Zoned in
    let inodes = c.self.inside.inodes in
    let known = subst (λ (s : VolumeState). c.args.f < length (files_of s.volume.inodes.layout)) (sym c.self.view_is) c.requires.known in
    let there = subst (λ (file : FileZones). Ordered (truncate_orders file c.shown-shown.result c.args.size) (Err c.in-Err.error) (g.D.Zoned.state c.self.inside.dev) (g.D.Zoned.state c.truncate_file.new.dev)) c.file-file.ensures c.in-Err.ensures.done in
    let done = subst (λ (shown : Shown). Ordered (truncate_orders (file_at c.self.inside.inodes c.args.f) shown c.args.size) (Err c.in-Err.error) (g.D.Zoned.state c.self.inside.dev) (g.D.Zoned.state c.truncate_file.new.dev)) c.shown-shown.ensures there in
    rw (← c.self.view_is) (failed_io c.in-Err.error c.recover.result c.self.inside.inodes c.args.f (D.state c.self.inside.dev) (D.state c.truncate_file.new.dev) c.recover.new.self.device c.recover.ensures.cause
    (truncate_fails c.in-Err.error (file_at inodes c.args.f) (shown_at inodes c.args.f) (shown_at inodes c.args.f) c.args.size _ _ (c.self.invariant.files c.args.f known) done))
