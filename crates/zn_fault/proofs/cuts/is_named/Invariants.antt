use Rattle.std.proofs.Common.{◌≡◌, ◌==◌, drop}
use Rattle.std.specs.List.{list_any}
use Rattle.zn_fault.proofs.cuts.is_named.Given as goal

-- the cuts from the index on decide
abbrev pub invariant-loop-i : goal.invariant-loop-i
invariant-loop-i l = list_any (λ cut. cut.0.0 == l.z.0) (drop l.i l.cuts) ≡ list_any (λ cut. cut.0.0 == l.z.0) (drop l.from l.cuts)
