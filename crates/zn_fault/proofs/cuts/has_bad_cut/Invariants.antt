use Rattle.std.proofs.Common.{◌≡◌, drop}
use Rattle.std.specs.List.{list_any}
use Rattle.zn_truth.specs.Inject.{is_bad_cut}
use Rattle.zn_fault.proofs.cuts.has_bad_cut.Given as goal

-- the cuts from the index on decide
abbrev pub invariant-loop-i : goal.invariant-loop-i
invariant-loop-i g l =
    let t = (g.D.Zoned.state l.dev).world.truth in
    list_any (is_bad_cut t) (drop l.i l.cuts) ≡ list_any (is_bad_cut t) l.cuts
