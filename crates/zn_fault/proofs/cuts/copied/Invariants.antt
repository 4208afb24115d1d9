use Rattle.std.proofs.Common.{◌≡◌, ◌≤◌, length, take}
use Rattle.zn_fault.proofs.cuts.copied.Given as goal

-- the cuts before the index are copied
abbrev pub invariant-loop-i : goal.invariant-loop-i
invariant-loop-i l = record { done : l.cuts ≡ take l.i l.loss.cuts; fits : length l.loss.cuts ≤ 64 }
