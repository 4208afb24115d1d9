use Rattle.std.proofs.Common.{◌+◌, ◌-◌, length}
use Rattle.zn_script.specs.Places.{IsPlaceIn}
use Rattle.zn_script.proofs.CutLoop.{IsReadTo}
use Rattle.zn_script.proofs.losses.cuts_at.Given as goal

abbrev pub invariant-loop-place : goal.invariant-loop-place
invariant-loop-place l = record { within : IsPlaceIn l.line l.place; read : IsReadTo l.line l.at l.place l.count }

abbrev pub decreases-loop-place : goal.decreases-loop-place
decreases-loop-place l = length l.line + 1 - l.place
