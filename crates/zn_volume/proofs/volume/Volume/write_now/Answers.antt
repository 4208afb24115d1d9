use Rattle.std.proofs.Common.{◌≡◌, ◌+◌, ◌<◌, ◌≤◌, true, false, Ok, Err, length, refl, sym, ap, ◌∙◌, subst, arith}
use Rattle.zn_truth.specs.declared.Shape.{Shape}
use Rattle.zn_device.specs.States.{Ordered}
use Rattle.zn_model.specs.declared.files.FileZones.{FileZones}
use Rattle.zn_model.specs.declared.files.Shown.{Shown}
use Rattle.zn_model.specs.Pieces.{writes}
use Rattle.zn_model.specs.Volume.{file_at, shown_at, capacity_at, is_queued}
use Rattle.zn_model.specs.Writing.{area_of, grown}
use Rattle.zn_model.specs.ZoneFiles.{files_of}
use Rattle.zn_io.specs.Files.{IsWritable, shape_of}
use Rattle.zn_volume.specs.VolumeState.{VolumeState}
use Rattle.zn_volume.proofs.Causing.{answered_caused, failed_caused}
use Rattle.zn_volume.proofs.Keeping.{agrees_written}
use Rattle.zn_volume.proofs.IoErrors.{write_fails, failed_io}
use Rattle.zn_volume.proofs.volume.Volume.write_now.Goals as goal

pub invariant_of-self-2 : goal.invariant_of-self-2
invariant_of-self-2 g c =
    let known = subst (λ (s : VolumeState). c.args.f < length (files_of s.volume.inodes.layout)) (sym c.self.view_is) c.requires.known in
    let behind = subst (λ (s : VolumeState). (file_at s.volume.inodes c.args.f).seq ≡ true → (shown_at s.volume.inodes c.args.f).size + length c.args.bytes.now ≤ capacity_at s.volume.inodes c.args.f) (sym c.self.view_is) c.requires.writable.behind in
    let idle = subst (λ (s : VolumeState). is_queued s.volume.queue c.args.f ≡ false) (sym c.self.view_is) c.requires.idle in
    let grows : c.write_file.new.shown ≡ grown c.self.inside.inodes.shape (file_at c.self.inside.inodes c.args.f) (shown_at c.self.inside.inodes c.args.f) (length c.args.bytes.now) =
    c.in_default.ensures.shown
    ∙ ap (λ (shape : Shape). grown shape c.file-file.result c.shown-shown.result (length c.args.bytes.now)) (sym c.self.invariant.shape)
    ∙ ap (λ (file : FileZones). grown c.self.inside.inodes.shape file c.shown-shown.result (length c.args.bytes.now)) c.file-file.ensures
    ∙ ap (λ (shown : Shown). grown c.self.inside.inodes.shape (file_at c.self.inside.inodes c.args.f) shown (length c.args.bytes.now)) c.shown-shown.ensures in
    agrees_written (g.D.Zoned.state c.self.inside.dev).world _ c.self.inside.inodes _ c.args.f (length c.args.bytes.now) c.write_file.new.shown _ c.self.inside.queue.queue _ _ _ c.in_default.ensures.done.obeys.geometry (omega arith) known behind idle grows c.set.ensures.set c.set.ensures.within c.self.invariant

pub returns-clause-cause : goal.returns-clause-cause
returns-clause-cause g c = rw (← c.self.view_is) (answered_caused _ (Ok tt) (Ok tt) _ _ c.in_default.ensures.done refl refl)

pub returns-in-Err-clause-cause : goal.returns-in-Err-clause-cause
returns-in-Err-clause-cause g c = rw (← c.self.view_is) (failed_caused _ _ _ _ _ _ c.recover.ensures.cause c.in-Err.ensures.done)

pub returns-in-Err-clause-io_error : goal.returns-in-Err-clause-io_error
returns-in-Err-clause-io_error g c =
    let D = g.D.Zoned in
    let inodes = c.self.inside.inodes in
    let known = subst (λ (s : VolumeState). c.args.f < length (files_of s.volume.inodes.layout)) (sym c.self.view_is) c.requires.known in
    let writable = subst (λ (shape : Shape). IsWritable shape (file_at c.self.inside.inodes c.args.f) (shown_at c.self.inside.inodes c.args.f) c.args.offset (length c.args.bytes.now)) c.self.invariant.shape
    (subst (λ (s : VolumeState). IsWritable s.volume.inodes.shape (file_at s.volume.inodes c.args.f) (shown_at s.volume.inodes c.args.f) c.args.offset (length c.args.bytes.now)) (sym c.self.view_is) c.requires.writable) in
    let at_end = subst (λ (s : VolumeState). (file_at s.volume.inodes c.args.f).seq ≡ true → c.args.offset ≡ (shown_at s.volume.inodes c.args.f).size) (sym c.self.view_is) c.requires.at_end in
    let done = subst (λ (file : FileZones). Ordered (writes (area_of (shape_of (g.D.Zoned.state c.self.inside.dev).world) file c.args.offset (length c.args.bytes.now)) c.args.bytes.now) (Err c.in-Err.error) (g.D.Zoned.state c.self.inside.dev) (g.D.Zoned.state c.write_file.new.dev)) c.file-file.ensures c.in-Err.ensures.done in
    rw (← c.self.view_is) (failed_io c.in-Err.error c.recover.result c.self.inside.inodes c.args.f (D.state c.self.inside.dev) (D.state c.write_file.new.dev) c.recover.new.self.device c.recover.ensures.cause
    (write_fails c.in-Err.error (file_at inodes c.args.f) (shown_at inodes c.args.f) c.args.offset c.args.bytes.now _ _ (c.self.invariant.files c.args.f known) (c.self.invariant.single c.args.f known) writable at_end done))
