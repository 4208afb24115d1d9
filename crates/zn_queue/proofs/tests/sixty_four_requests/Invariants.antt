use Rattle.std.proofs.Common.{◌≤◌}
use Rattle.zn_queue.proofs.tests.sixty_four_requests.Given as goal

abbrev pub invariant-loop-i : goal.invariant-loop-i
invariant-loop-i g l = l.queue.queue.last_ticket ≤ l.i

abbrev pub invariant-loop-i-2 : goal.invariant-loop-i-2
invariant-loop-i-2 g l = l.queue.queue.last_ticket ≤ 65
