use Rattle.std.proofs.Common.{◌∙◌, ap, sym, arith}
use Rattle.std.proofs.lemmas.Result.{err_from_is_err_and}
use Rattle.zn_model.specs.Options.{each_item}
use Rattle.zn_opts.proofs.ItemPlaces.{item_at, last_item, item_taken, item_refused, item_alone}
use Rattle.zn_opts.proofs.items.with_items.Goals as goal

pub returns-in_err-given : goal.returns-in_err-given
returns-in_err-given g c =
    let item = item_at c.args.text.now c.loop-len.at c.in-Some.len c.loop-len.invariant.within (sym c.in-Some.ensures) in
    let ends = err_from_is_err_and c.from_residual.result c.from_residual.ensures.1 in
    rw (ends.1, ends.2)
    (sym (item_refused g.G.Given.step c.loop-len.given c.in_err-given.field-0.0 _ _ (sym c.in_err-given.ensures)) ∙ ap (each_item g.G.Given.step c.loop-len.given) (sym item.parted) ∙ c.loop-len.invariant.rest)

pub loop-len-preserved : goal.loop-len-preserved
loop-len-preserved g c =
    let item = item_at c.args.text.now c.loop-len.at c.in-Some.len c.loop-len.invariant.within (sym c.in-Some.ensures) in
    let taken = item_taken g.G.Given.step c.loop-len.given c.in_ok-given.given _ _ (sym c.in_ok-given.ensures) in
    record {
      within = omega (arith, item.within);
      rest = sym taken ∙ ap (each_item g.G.Given.step c.loop-len.given) (sym item.parted) ∙ c.loop-len.invariant.rest;
    }

pub returns : goal.returns
returns g c =
    c.with_item_at-2.ensures
    ∙ sym (sym c.loop-len.invariant.rest ∙ ap (each_item g.G.Given.step c.loop-len.given) (last_item c.args.text.now c.loop-len.at (sym c.in_default.ensures)) ∙ item_alone g.G.Given.step c.loop-len.given _)
