use Rattle.std.proofs.Common.{◌≡◌, Bool, false, refl, sym, ap, ◌∙◌, not, ◌&&◌}
use Rattle.zn_model.specs.Looks.{all_infos}
use Rattle.zn_mkfs.specs.Commands.{is_kept}
use Rattle.zn_mkfs.proofs.LookLaws.{looks_same}
use Rattle.zn_mkfs.proofs.Answering.{good_failed, good_written}
use Rattle.zn_mkfs.proofs.formatting.format_good.Goals as goal

pub write_all-requires-clause-infos : goal.write_all-requires-clause-infos
write_all-requires-clause-infos g c =
    let t = (g.D.Zoned.state c.args.dev.now).world.truth in
    c.requires.infos ∙ sym (ap all_infos (looks_same t _ _ c.in-Ok.ensures.done))

pub returns-in-Err : goal.returns-in-Err
returns-in-Err g c =
    let state = g.D.Zoned.state in
    record { done = good_failed _ _ c.args.block.now c.args.force (state c.args.dev.now) (state c.args.dev.now) (state c.holds_copies.new.dev) c.in-Err.error c.format_error.result c.format_error.ensures c.in-Err.ensures.done }

pub returns-else-is_kept : goal.returns-else-is_kept
returns-else-is_kept g c =
    let t = (g.D.Zoned.state c.args.dev.now).world.truth in
    let none : is_kept c.holds_copies.new.copies t c.args.force ≡ false =
    sym (ap (λ (found : Bool). found && not c.args.force) c.in-Ok.ensures.found) ∙ sym c.is_kept.ensures ∙ c.if-is_kept.false in
    record {
      done = good_written c.holds_copies.new.copies t c.args.block.now c.args.force _ _ _ c.answer.result c.write_all.result c.answer.ensures c.requires.good none refl c.in-Ok.ensures.done c.write_all.ensures.done;
    }
