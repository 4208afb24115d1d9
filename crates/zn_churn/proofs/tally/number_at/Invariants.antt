use Rattle.std.proofs.Common.{◌≡◌, ◌≤◌, drop}
use Rattle.zn_churn.specs.Tally.{number_on}
use Rattle.zn_churn.specs.declared.tally.TheConstants.{MOST_COUNT}
use Rattle.zn_churn.proofs.tally.number_at.Given as goal

-- the rest goes on from the number so far
abbrev pub invariant-loop-byte : goal.invariant-loop-byte
invariant-loop-byte l = record {
  so_far : number_on 0 l.bytes ≡ number_on l.number (drop l.byte-index l.bytes);
  most : l.number ≤ MOST_COUNT;
}
