use Rattle.std.proofs.Common.{◌≡◌, ◌+◌, ◌-◌, length}
use Rattle.zn_lines.specs.Lines.{plain_format}
use Rattle.zn_script.specs.Items.{format_meant, IsShort}
use Rattle.zn_script.specs.Places.{left_at, IsPlaceIn}
use Rattle.zn_script.proofs.ItemLoop.{all_items}
use Rattle.zn_script.proofs.items.items_at.Given as goal

abbrev pub invariant-loop-place : goal.invariant-loop-place
invariant-loop-place l = record {
  within : IsPlaceIn l.line l.place;
  short : IsShort l.found.features;
  same : all_items plain_format (left_at l.line l.at) ≡ all_items (format_meant l.found) (left_at l.line l.place);
}

abbrev pub decreases-loop-place : goal.decreases-loop-place
decreases-loop-place l = length l.line + 1 - l.place
