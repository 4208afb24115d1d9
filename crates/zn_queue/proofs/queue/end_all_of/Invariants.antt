use Rattle.std.proofs.Common.{◌≡◌, ◌+◌, length}
use Rattle.std.specs.VecDeque.{deque_capacity}
use Rattle.zn_queue.proofs.Rotating.{IsRotated}
use Rattle.zn_queue.proofs.queue.end_all_of.Given as goal

abbrev pub invariant-loop : goal.invariant-loop
invariant-loop l =
    IsRotated l.file l.counter l.fn.pool l.pool l.fn.waiting.items l.waiting.items l.fn.ended.items l.ended.items
    × (length l.waiting.items + length l.ended.items ≡ length l.fn.waiting.items + length l.fn.ended.items)
    × (deque_capacity l.waiting ≡ deque_capacity l.fn.waiting)
    × (deque_capacity l.ended ≡ deque_capacity l.fn.ended)
