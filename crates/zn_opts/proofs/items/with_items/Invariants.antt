use Rattle.std.proofs.Common.{◌≡◌, ◌≤◌, ◌-◌, length, drop}
use Rattle.std.specs.List.{slice_split}
use Rattle.zn_model.specs.Options.{is_comma, placed_from, each_item}
use Rattle.zn_opts.proofs.items.with_items.Given as goal

-- what is given so far, with the items from this place on, is what all items ask for
abbrev pub invariant-loop-len : goal.invariant-loop-len
invariant-loop-len g l = record {
  within : l.at ≤ length l.text;
  rest : each_item g.G.Given.step l.given (placed_from l.at (slice_split is_comma (drop l.at l.text)))
      ≡ each_item g.G.Given.step l.fn.given (placed_from 0 (slice_split is_comma l.text));
}

abbrev pub decreases-loop-len : goal.decreases-loop-len
decreases-loop-len g l = length l.text - l.at
