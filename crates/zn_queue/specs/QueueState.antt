-- What contracts see of a queue of writes, and what its calls make of it. (own)
use Rattle.std.specs.Prelude.{◌≡◌, ◌≢◌, ℕ, ◌+◌, List, [], ◌∷◌, ◌++◌, length, map, take, drop, All, AllPairs, Contains, IsSome}
use Rattle.zn_model.specs.declared.limits.TheConstants.{POOL_BLOCKS}
use Rattle.zn_model.specs.declared.handles.Handle.{Handle}
use Rattle.zn_model.specs.declared.answers.Outcome.{Outcome}
use Rattle.zn_model.specs.declared.answers.Refusal.{Refusal}
use Rattle.zn_model.specs.declared.answers.Refusal.TheVariants.{QueueFull as refused_as_full, PoolEmpty as refused_as_empty}
use Rattle.zn_model.specs.Volume.{Queue, Request, queued_blocks}
use Rattle.zn_pool.specs.PoolState.{PoolState, all_free, lease_at, bytes_at}
use Rattle.zn_queue.specs.declared.queue.QueueError.{QueueError}
use Rattle.zn_queue.specs.declared.queue.QueueError.TheVariants.{QueueFull, PoolEmpty}
use Rattle.zn_queue.specs.declared.queue.Request.{Request as Told}

-- The requests and the outcomes, the first block of the lease of each request that waits, in their order, and the
-- pool of these leases.
pub record QueueState : Type 0 where
  pub queue : Queue
  pub firsts : List ℕ
  pub pool : PoolState

-- no requests, and a pool of free blocks
abbrev pub empty_queue : QueueState
empty_queue = record {
  queue = record { queued = []; finished = []; last_ticket = 0 };
  firsts = [];
  pool = all_free POOL_BLOCKS;
}

-- Each request that waits has a live lease, which holds its bytes. The first blocks of the leases differ, no other
-- lease is live, and all blocks that no request holds are free.
pub record IsBacked (seen : QueueState) : Type 0 where
  pub bytes : map (bytes_at seen.pool) seen.firsts ≡ map (λ request. request.bytes) seen.queue.queued
  pub live : All (λ first. IsSome (lease_at seen.pool first)) seen.firsts
  pub apart : AllPairs (λ a b. a ≢ b) seen.firsts
  pub only : (first : ℕ) → IsSome (lease_at seen.pool first) → Contains seen.firsts first
  pub free : length seen.pool.free + queued_blocks seen.queue ≡ POOL_BLOCKS

-- the refusal of a call that a queue's refusal is
abbrev pub refusal_by : QueueError → Refusal
refusal_by QueueFull = refused_as_full
refusal_by PoolEmpty = refused_as_empty

-- one more write waits behind the others, with the next ticket
abbrev pub with_request : Queue → ℕ → Handle → ℕ → List ℕ → Queue
with_request queue file key offset bytes = record queue {
  queued = queue.queued ++ (record { ticket = queue.last_ticket + 1; file = file; handle = key; offset = offset; bytes = bytes }) ∷ [];
  last_ticket = queue.last_ticket + 1;
}

-- the request that is told, with these bytes
abbrev pub request_of : Told → List ℕ → Request
request_of told bytes = record { ticket = told.ticket; file = told.file; handle = told.key; offset = told.offset; bytes = bytes }

-- the oldest request has ended so, behind those that ended before
abbrev pub with_outcome : Queue → Outcome → Queue
with_outcome queue outcome = record queue {
  queued = drop 1 queue.queued;
  finished = queue.finished ++ map (λ request. record { ticket = request.ticket; outcome = outcome }) (take 1 queue.queued);
}
