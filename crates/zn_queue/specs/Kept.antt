-- What the fields of a queue stand for, and what is true of them. No public clause cites this module.
use Rattle.std.specs.Prelude.{◌≡◌, ℕ, ◌+◌, ◌*◌, ◌≤◌, List, [], ◌∷◌, length, map, sum_by, Option, Some, None, slice_index_or, slice_set}
use Rattle.std.specs.Option.{option_map}
use Rattle.std.specs.VecDeque.{deque_capacity}
use Rattle.zn_truth.specs.declared.limits.TheConstants.{BLOCK_SIZE}
use Rattle.zn_model.specs.declared.limits.TheConstants.{MAX_REQUESTS, MOST_BYTES, POOL_BLOCKS}
use Rattle.zn_model.specs.Volume.{Request}
use Rattle.zn_pool.specs.PoolState.{PoolState, LeaseState, first_of, size_of, bytes_of}
use Rattle.zn_queue.specs.declared.queue.Waiting.{Waiting}
use Rattle.zn_queue.specs.declared.queue.Queue.TheInside.{Inside}
use Rattle.zn_queue.specs.QueueState.{QueueState, request_of}

-- the first block of the lease of a request that waits
abbrev pub first_block : Waiting → ℕ
first_block waiting = first_of waiting.lease

-- the request that waits, with the bytes that its lease holds
abbrev pub request_in : List (Option LeaseState) → Waiting → Request
request_in live waiting = request_of waiting.request (bytes_of (slice_index_or live (first_block waiting) None))

-- what contracts see of the fields
abbrev pub seen_of : Inside → QueueState
seen_of a = record {
  queue = record {
    queued = map (request_in a.pool.live) a.waiting.items;
    finished = a.ended.items;
    last_ticket = a.last_ticket;
  };
  firsts = map first_block a.waiting.items;
  pool = a.pool;
}

-- The lease of a request is live, and it has the blocks of the request's bytes: at least one, and no more than a
-- call may write.
pub record HasLease (live : List (Option LeaseState)) (waiting : Waiting) : Type 0 where
  pub size : option_map (λ lease. length lease.blocks) (slice_index_or live (first_block waiting) None) ≡ Some (size_of waiting.lease)
  pub bytes : length (bytes_of (slice_index_or live (first_block waiting) None)) ≡ waiting.request.len
  pub len : waiting.request.len ≡ BLOCK_SIZE * size_of waiting.lease
  pub some : 1 ≤ size_of waiting.lease
  pub most : waiting.request.len ≤ MOST_BYTES

-- The requests have the live leases: the first has one, and without it the others have those that are left.
abbrev pub AreLeased : List Waiting → List (Option LeaseState) → Type 0
AreLeased [] live = (first : ℕ) → slice_index_or live first None ≡ None
AreLeased (first ∷ others) live = HasLease live first × AreLeased others (slice_set live (first_block first) None)

-- the blocks of requests
abbrev pub blocks_in : List Waiting → ℕ
blocks_in all = sum_by (λ waiting. size_of waiting.lease) all

-- the requests that wait have the leases of the pool, and all other blocks are free
pub record IsShared (pool : PoolState) (all : List Waiting) : Type 0 where
  pub leased : AreLeased all pool.live
  pub total : length pool.free + blocks_in all ≡ POOL_BLOCKS

-- The pool is shared out to the requests that wait, and there is room for all requests that may wait or have ended.
pub record IsKept (a : Inside) : Type 0 where
  pub shared : IsShared a.pool a.waiting.items
  pub limit : length a.waiting.items + length a.ended.items ≤ MAX_REQUESTS
  pub waiting_room : MAX_REQUESTS ≤ deque_capacity a.waiting
  pub ended_room : MAX_REQUESTS ≤ deque_capacity a.ended
