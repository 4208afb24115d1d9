use Rattle.std.proofs.Common.{◌≡◌, ◌+◌, ◌-◌, Ok, length}
use Rattle.zn_script.specs.Cuts.{cuts_meant}
use Rattle.zn_script.specs.Places.{left_at}
use Rattle.zn_script.proofs.CutLoop.{all_cuts}
use Rattle.zn_script.proofs.losses.expand_cuts.Given as goal

abbrev pub invariant-loop-place : goal.invariant-loop-place
invariant-loop-place l = all_cuts l.cuts (left_at l.words l.place) ≡ Ok (cuts_meant l.words)

abbrev pub decreases-loop-place : goal.decreases-loop-place
decreases-loop-place l = length l.words + 1 - l.place
