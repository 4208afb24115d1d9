use Rattle.std.proofs.Common.{◌≤◌, length}
use Rattle.zn_host.proofs.transfer.write_front.Given as goal

-- no more than all of them
abbrev pub invariant-loop : goal.invariant-loop
invariant-loop g l = l.done ≤ length l.bytes
