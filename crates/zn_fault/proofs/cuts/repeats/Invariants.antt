use Rattle.std.proofs.Common.{◌≡◌, drop}
use Rattle.zn_truth.specs.Inject.{repeats}
use Rattle.zn_fault.proofs.cuts.repeats.Given as goal

-- the cuts from the index on decide
abbrev pub invariant-loop-i : goal.invariant-loop-i
invariant-loop-i l = repeats (drop l.i l.cuts) ≡ repeats l.cuts
