-- One more request, and the refusals of one.
use Rattle.std.proofs.Common.{◌≡◌, ℕ, ◌+◌, ◌-◌, ◌*◌, ◌/◌, ◌<◌, ◌≤◌, cond, leb, ltb, List, [], ◌∷◌, ◌++◌, length, get_or, set, map, take, Option, Some, None, sym, ap, ◌∙◌, arith, subst}
use Rattle.std.specs.List.{sum_by}
use Rattle.std.specs.Option.{option_map}
use Rattle.std.proofs.lemmas.Bool.{lt-leb, lt-ltb, le-ltb}
use Rattle.std.proofs.lemmas.List.{get_or-set_same, length-take-le, length-drop, set-set, map_push}
use Rattle.zn_truth.specs.declared.limits.TheConstants.{BLOCK_SIZE}
use Rattle.zn_model.specs.declared.limits.TheConstants.{MAX_REQUESTS, MOST_BYTES, POOL_BLOCKS}
use Rattle.zn_model.specs.declared.answers.Refusal.{Refusal}
use Rattle.zn_model.specs.declared.answers.Refusal.TheVariants.{QueueFull, PoolEmpty}
use Rattle.zn_model.specs.Volume.{Queue, queued_blocks}
use Rattle.zn_model.specs.Requests.{queue_refusal}
use Rattle.zn_pool.specs.PoolState.{PoolState, LeaseState, size_of, bytes_of, filled, Takes}
use Rattle.zn_queue.specs.declared.queue.Waiting.{Waiting}
use Rattle.zn_queue.specs.QueueState.{request_of}
use Rattle.zn_queue.specs.Kept.{first_block, request_in, HasLease, AreLeased, IsShared}
use Rattle.zn_queue.proofs.LeaseLaws.{each_leased, each_apart, leased-added, requests-other, blocks_in-push}
use Rattle.zn_queue.proofs.Backing.{blocks_told}

-- ---- refusals

-- the blocks that requests don't hold are free
pub free_told : (pool : PoolState) (all : List Waiting) → IsShared pool all → length pool.free ≡ POOL_BLOCKS - sum_by (λ r. length r.bytes / BLOCK_SIZE) (map (request_in pool.live) all)
free_told pool all shared = omega (arith, shared.total, blocks_told all pool.live (each_leased all pool.live shared.leased))

module _ (queue : Queue) (len free : ℕ) (room : length queue.queued + length queue.finished < MAX_REQUESTS) (told : free ≡ POOL_BLOCKS - queued_blocks queue) where
  there_is_room : (o : Option Refusal) → cond (leb MAX_REQUESTS (length queue.queued + length queue.finished)) (Some QueueFull) o ≡ o
  there_is_room o = ap (λ b. cond b (Some QueueFull) o) (lt-leb MAX_REQUESTS (length queue.queued + length queue.finished) room)

  pub refused_empty : free < len / BLOCK_SIZE → queue_refusal queue len ≡ Some PoolEmpty
  refused_empty short =
      there_is_room (cond (ltb (POOL_BLOCKS - queued_blocks queue) (len / BLOCK_SIZE)) (Some PoolEmpty) None)
      ∙ ap (λ b. cond b (Some PoolEmpty) None) (lt-ltb (POOL_BLOCKS - queued_blocks queue) (len / BLOCK_SIZE) (omega arith))

  pub refused_none : len / BLOCK_SIZE ≤ free → queue_refusal queue len ≡ None
  refused_none enough =
      there_is_room (cond (ltb (POOL_BLOCKS - queued_blocks queue) (len / BLOCK_SIZE)) (Some PoolEmpty) None)
      ∙ ap (λ b. cond b (Some PoolEmpty) None) (le-ltb (POOL_BLOCKS - queued_blocks queue) (len / BLOCK_SIZE) (omega arith))

-- ---- one more request

module _ (pool pool' : PoolState) (n : ℕ) (w : Waiting) (bytes : List ℕ) (takes : Takes pool pool' n w.lease) (enough : n ≤ length pool.free) (some : 1 ≤ n) (long : length bytes ≡ BLOCK_SIZE * n) (len : w.request.len ≡ length bytes) (most : length bytes ≤ MOST_BYTES) where
  abbrev new_lease : LeaseState
  new_lease = record { blocks = take n pool.free; bytes = bytes }

  abbrev old_lease : LeaseState
  old_lease = record { blocks = take n pool.free; bytes = takes.bytes }

  -- the lease in its place
  place : (l : LeaseState) → get_or (set pool.live (first_block w) (Some l)) (first_block w) None ≡ Some l
  place l = get_or-set_same pool.live (first_block w) (Some l) None takes.within

  live_taken : pool'.live ≡ set pool.live (first_block w) (Some old_lease)
  live_taken = ap (λ p. p.live) takes.taken ∙ ap (λ f. set pool.live f (Some old_lease)) (sym takes.first)

  live_filled : (filled pool' (first_block w) bytes).live ≡ set pool.live (first_block w) (Some new_lease)
  live_filled =
      let f = first_block w in
      let put : Option LeaseState → Option LeaseState = λ o. option_map (λ l. let m : LeaseState = record l { bytes = bytes } in m) o in
      let was : get_or pool'.live f None ≡ Some old_lease = ap (λ ls. get_or ls f None) live_taken ∙ place old_lease in
      ap (λ ls. set ls f (put (get_or pool'.live f None))) live_taken
      ∙ ap (λ o. set (set pool.live f (Some old_lease)) f (put o)) was
      ∙ set-set pool.live f (Some old_lease) (Some new_lease)

  has_new : HasLease (set pool.live (first_block w) (Some new_lease)) w
  has_new =
      let long_lease : length (take n pool.free) ≡ size_of w.lease = length-take-le n pool.free enough ∙ sym takes.size in
      record {
        size = ap (option_map (λ l. length l.blocks)) (place new_lease) ∙ ap Some long_lease;
        bytes = ap (λ o. length (bytes_of o)) (place new_lease) ∙ sym len;
        len = len ∙ long ∙ ap (λ k. BLOCK_SIZE * k) (sym takes.size);
        some = omega (arith, takes.size);
        most = omega (arith, len);
      }

  pub shared_more : (all : List Waiting) → IsShared pool all → IsShared (filled pool' (first_block w) bytes) (all ++ w ∷ [])
  shared_more all shared = record {
    leased = subst (AreLeased (all ++ w ∷ [])) (sym live_filled) (leased-added w new_lease all pool.live takes.unused takes.within has_new shared.leased);
    total = omega (arith, shared.total, ap (λ p. length p.free) takes.taken, length-drop n pool.free, blocks_in-push all w, takes.size);
  }

  pub requests_more : (all : List Waiting) → IsShared pool all → map (request_in (filled pool' (first_block w) bytes).live) (all ++ w ∷ []) ≡ map (request_in pool.live) all ++ request_of w.request bytes ∷ []
  requests_more all shared =
      let new = set pool.live (first_block w) (Some new_lease) in
      let others = requests-other all pool.live (first_block w) (Some new_lease) (each_apart all pool.live (first_block w) takes.unused (each_leased all pool.live shared.leased)) in
      ap (λ ls. map (request_in ls) (all ++ w ∷ [])) live_filled
      ∙ map_push (request_in new) all w
      ∙ ap (λ rs. rs ++ request_in new w ∷ []) others
      ∙ ap (λ o. map (request_in pool.live) all ++ request_of w.request (bytes_of o) ∷ []) (place new_lease)
