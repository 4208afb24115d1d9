use Rattle.std.proofs.Common.{◌≤◌, ◌+◌, drop}
use Rattle.zn_model.specs.declared.limits.TheConstants.{MOST_BYTES}
use Rattle.zn_script.proofs.FirstParts.{IsCounted}
use Rattle.zn_script.proofs.data.count_in.Given as goal

abbrev pub invariant-loop-i : goal.invariant-loop-i
invariant-loop-i l = record { small : l.count ≤ MOST_BYTES; counted : IsCounted MOST_BYTES l.bytes (drop l.i l.rest) l.count (l.i + 1) }
