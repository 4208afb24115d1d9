use Rattle.std.proofs.Common.{List, [], length, map, refl, sym, ap, ◌∙◌, subst, arith}
use Rattle.zn_model.specs.declared.limits.TheConstants.{POOL_BLOCKS}
use Rattle.zn_model.specs.declared.handles.Done.{Done}
use Rattle.zn_pool.specs.PoolState.{PoolState, all_free}
use Rattle.zn_queue.specs.declared.queue.Waiting.{Waiting}
use Rattle.zn_queue.specs.QueueState.{QueueState}
use Rattle.zn_queue.specs.Kept.{IsShared, first_block, request_in}
use Rattle.zn_queue.proofs.LeaseLaws.{shared_none}
use Rattle.zn_queue.proofs.queue.Queue.new.Goals as goal

pub invariant_of-result : goal.invariant_of-result
invariant_of-result c =
    let pool = c.in_ok-new.ensures in
    let waiting = c.in_ok-with_capacity.ensures.items in
    let ended = c.in_ok-with_capacity-2.ensures.items in
    record {
      shared = subst (λ p. IsShared p c.in_ok-with_capacity.field-0.items) (sym pool) (subst (λ (ws : List Waiting). IsShared (all_free POOL_BLOCKS) ws) (sym waiting) (shared_none POOL_BLOCKS refl));
      limit = omega (arith, ap length waiting, ap length ended);
      waiting_room = c.in_ok-with_capacity.ensures.capacity;
      ended_room = c.in_ok-with_capacity-2.ensures.capacity;
    }

pub returns : goal.returns
returns c =
    let pool = c.in_ok-new.ensures in
    let waiting = c.in_ok-with_capacity.ensures.items in
    let ended = c.in_ok-with_capacity-2.ensures.items in
    let seen = λ (p : PoolState) (ws : List Waiting) (ds : List Done). let s : QueueState = record {
      queue = record { queued = map (request_in p.live) ws; finished = ds; last_ticket = 0 };
      firsts = map first_block ws;
      pool = p;
    } in s in
    ap (λ ws. seen c.in_ok-new.field-0 ws c.in_ok-with_capacity-2.field-0.items) waiting
    ∙ ap (λ ds. seen c.in_ok-new.field-0 [] ds) ended
    ∙ ap (λ p. seen p [] []) pool
