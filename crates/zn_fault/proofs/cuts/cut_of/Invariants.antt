use Rattle.std.proofs.Common.{◌≡◌, drop}
use Rattle.zn_truth.specs.Power.{cut_of}
use Rattle.zn_fault.proofs.cuts.cut_of.Given as goal

-- the first cut of the zone, if there is one, isn't before the index
abbrev pub invariant-loop-i : goal.invariant-loop-i
invariant-loop-i l = cut_of (drop l.i l.cuts) l.z.0 ≡ cut_of l.cuts l.z.0
