use Rattle.std.proofs.Common.{◌<◌, Ok, Err, length, refl, sym, subst, arith}
use Rattle.std.proofs.lemmas.Grind.{common_steps}
use Rattle.zn_device.specs.States.{Ordered}
use Rattle.zn_model.specs.declared.files.FileZones.{FileZones}
use Rattle.zn_model.specs.declared.files.Shown.{Shown}
use Rattle.zn_model.specs.Reading.{read_orders, read_end}
use Rattle.zn_model.specs.Volume.{file_at, shown_at}
use Rattle.zn_model.specs.ZoneFiles.{files_of}
use Rattle.zn_io.specs.Files.{shape_of}
use Rattle.zn_volume.specs.VolumeState.{VolumeState}
use Rattle.zn_volume.proofs.Causing.{answered_caused, failed_caused}
use Rattle.zn_volume.proofs.IoErrors.{read_fails, failed_io, room_in}
use Rattle.zn_volume.proofs.Keeping.{agrees_on}
use Rattle.zn_volume.proofs.volume.Volume.front_now.Goals as goal

pub invariant_of-self : goal.invariant_of-self
invariant_of-self g c =
    agrees_on (g.D.Zoned.state c.self.inside.dev).world _ _ _ _ _ _ _ c.read_front.ensures.done.obeys.geometry (grind (arith, common_steps)) c.self.invariant

pub invariant_of-self-in-Err : goal.invariant_of-self-in-Err
invariant_of-self-in-Err g c =
    agrees_on (g.D.Zoned.state c.self.inside.dev).world _ _ _ _ _ _ _ c.read_front.ensures.done.obeys.geometry (grind (arith, common_steps)) c.self.invariant

pub returns-in-Ok-clause-cause : goal.returns-in-Ok-clause-cause
returns-in-Ok-clause-cause g c = rw (← c.self.view_is) (answered_caused _ (Ok tt) (Ok c.in-Ok.count) _ _ c.in-Ok.ensures.done refl refl)

pub returns-in-Err-clause-cause : goal.returns-in-Err-clause-cause
returns-in-Err-clause-cause g c = rw (← c.self.view_is) (failed_caused _ _ _ _ _ _ c.recover.ensures.cause c.in-Err.ensures.done)

pub returns-in-Err-clause-io_error : goal.returns-in-Err-clause-io_error
returns-in-Err-clause-io_error g c =
    let D = g.D.Zoned in
    let inodes = c.self.inside.inodes in
    let known = subst (λ (s : VolumeState). c.args.f < length (files_of s.volume.inodes.layout)) (sym c.self.view_is) c.requires.known in
    let size = room_in _ _ _ _ _ _ c.args.f c.self.invariant known in
    let there = subst (λ (file : FileZones). Ordered (read_orders (shape_of (g.D.Zoned.state c.self.inside.dev).world) file c.args.offset (read_end c.shown-shown.result c.args.offset c.args.len)) (Err c.in-Err.error) (g.D.Zoned.state c.self.inside.dev) (g.D.Zoned.state c.read_front.new.dev)) c.file-file.ensures c.in-Err.ensures.done in
    let done = subst (λ (shown : Shown). Ordered (read_orders (shape_of (g.D.Zoned.state c.self.inside.dev).world) (file_at c.self.inside.inodes c.args.f) c.args.offset (read_end shown c.args.offset c.args.len)) (Err c.in-Err.error) (g.D.Zoned.state c.self.inside.dev) (g.D.Zoned.state c.read_front.new.dev)) c.shown-shown.ensures there in
    rw (← c.self.view_is) (failed_io c.in-Err.error c.recover.result c.self.inside.inodes c.args.f (D.state c.self.inside.dev) (D.state c.read_front.new.dev) c.recover.new.self.device c.recover.ensures.cause
    (read_fails c.in-Err.error (file_at inodes c.args.f) (shown_at inodes c.args.f) c.args.offset c.args.len _ _ (g.met.D.Zoned.is_sound c.self.inside.dev) (c.self.invariant.files c.args.f known) (c.self.invariant.single c.args.f known) size done))
