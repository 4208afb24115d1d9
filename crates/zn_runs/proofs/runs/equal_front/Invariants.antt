use Rattle.std.proofs.Common.{◌≡◌, ℕ, ◌<◌, ◌≤◌, ◌-◌, length, get_or}
use Rattle.zn_runs.proofs.runs.equal_front.Given as goal

-- each byte so far is this one
abbrev pub invariant-lanes : goal.invariant-lanes
invariant-lanes l = record {
  within : l.at ≤ length l.bytes;
  equal : (k : ℕ) → k < l.at → get_or l.bytes k 0 ≡ l.byte;
}

abbrev pub decreases-lanes : goal.decreases-lanes
decreases-lanes l = length l.bytes - l.at

abbrev pub invariant-rest : goal.invariant-rest
invariant-rest l = record {
  within : l.at ≤ length l.bytes;
  equal : (k : ℕ) → k < l.at → get_or l.bytes k 0 ≡ l.byte;
}

abbrev pub decreases-rest : goal.decreases-rest
decreases-rest l = length l.bytes - l.at

abbrev pub invariant-wide : goal.invariant-wide
invariant-wide l = record {
  within : l.at ≤ length l.bytes;
  equal : (k : ℕ) → k < l.at → get_or l.bytes k 0 ≡ l.byte;
}

abbrev pub decreases-wide : goal.decreases-wide
decreases-wide l = length l.bytes - l.at
