use Rattle.std.proofs.Common.{◌≡◌, ◌∙◌, Err, arith}
use Rattle.std.proofs.lemmas.Grind.{common_steps}
use Rattle.zn_lines.specs.Lines.{plain_format}
use Rattle.zn_script.specs.Items.{format_meant}
use Rattle.zn_script.specs.Places.{left_at}
use Rattle.zn_script.proofs.ItemLoop.{all_items, items_more, items_fault, items_none}
use Rattle.zn_script.proofs.items.items_at.Goals as goal

pub returns-in_err-more-clause-gives : goal.returns-in_err-more-clause-gives
returns-in_err-more-clause-gives c =
    let line = c.args.line.now in
    let fault : all_items plain_format (left_at line c.args.at) ≡ Err c.in_err-more.field-0.0 =
    c.loop-place.invariant.same ∙ items_fault (format_meant c.loop-place.found) line c.loop-place.place c.in_err-more.field-0.0 c.loop-place-test.true c.in_err-more.ensures.gives in
    grind (arith, common_steps, fault)

pub loop-place-preserved : goal.loop-place-preserved
loop-place-preserved c =
    let line = c.args.line.now in
    record {
      within = c.in_ok-more.ensures.place;
      short = c.in_ok-more.ensures.short;
      same =
          c.loop-place.invariant.same
          ∙ items_more (format_meant c.loop-place.found) (format_meant c.in_ok-more.more) (left_at line c.loop-place.place) (left_at line c.in_ok-more.end) c.in_ok-more.ensures.gives;
    }

pub returns-clause-gives : goal.returns-clause-gives
returns-clause-gives c = c.loop-place.invariant.same ∙ items_none (format_meant c.loop-place.found) c.args.line.now c.loop-place.place c.loop-place-test.false
