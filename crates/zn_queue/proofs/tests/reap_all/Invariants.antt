use Rattle.std.proofs.Common.{◌≡◌}
use Rattle.zn_queue.proofs.tests.reap_all.Given as goal

abbrev pub invariant-loop-ticket : goal.invariant-loop-ticket
invariant-loop-ticket g l = l.queue.queue.last_ticket ≡ l.fn.queue.queue.last_ticket
