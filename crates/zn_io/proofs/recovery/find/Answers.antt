use Rattle.std.proofs.Common.{ℕ, ◌≤◌, map, ap, ◌∙◌, sym, subst, Result}
use Rattle.std.specs.Prelude.{IfOk}
use Rattle.std.specs.List.{range_with_len}
use Rattle.zn_truth.specs.declared.DevError.{DevError}
use Rattle.zn_truth.specs.Truth.{info_at}
use Rattle.zn_model.specs.declared.files.Found.{Found}
use Rattle.zn_model.specs.ZoneFiles.{room_of}
use Rattle.zn_io.specs.Files.{shape_of}
use Rattle.zn_io.proofs.Sizes.{found_below, held_below, room_below}
use Rattle.zn_io.proofs.recovery.find.Goals as goal

pub returns-clause-fits : goal.returns-clause-fits
returns-clause-fits g c =
    subst (λ (r : Result Found DevError). IfOk r (λ found. found.held ≤ room_of (shape_of (g.D.Zoned.state c.args.dev.now).world) c.args.file.now)) (sym c.found_in.ensures)
    (found_below (g.D.Zoned.state c.args.dev.now).world c.args.file.now c.report-reply.result c.report-reply.new.out (g.met.D.Zoned.is_sound c.args.dev.now) c.requires.file
    (λ ok. c.report-reply.ensures.infos ok ∙ ap (λ (n : ℕ). map (info_at (g.D.Zoned.state c.args.dev.now).world.truth) (range_with_len c.args.file.now.first n)) c.requires.places))

pub returns-clause-held : goal.returns-clause-held
returns-clause-held g c =
    held_below _ (room_of (shape_of (g.D.Zoned.state c.args.dev.now).world) c.args.file.now) (room_below (g.D.Zoned.state c.args.dev.now).world c.args.file.now c.requires.file) (returns-clause-fits g c)
