use Rattle.std.proofs.Common.{map, refl, subst}
use Rattle.zn_queue.specs.QueueState.{IsBacked}
use Rattle.zn_queue.specs.Kept.{request_in}
use Rattle.zn_queue.proofs.Backing.{backed}
use Rattle.zn_queue.proofs.queue.Queue.pool.Goals as goal

pub returns-clause-backed : goal.returns-clause-backed
returns-clause-backed c =
    let a = c.self.inside in
    subst IsBacked c.self.view_is (backed a.pool a.waiting.items (record {
      queued = map (request_in a.pool.live) a.waiting.items;
      finished = a.ended.items;
      last_ticket = a.last_ticket;
    }) c.self.invariant.shared refl)
