use Rattle.std.proofs.Common.{◌+◌, ◌≤◌}
use Rattle.zn_queue.proofs.tests.submit_all.Given as goal

abbrev pub invariant-loop-row : goal.invariant-loop-row
invariant-loop-row g l = l.queue.queue.last_ticket ≤ l.fn.queue.queue.last_ticket + l.row-index
