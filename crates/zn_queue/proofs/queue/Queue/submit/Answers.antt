use Rattle.std.proofs.Common.{◌≡◌, ◌-◌, ◌+◌, ◌/◌, ◌<◌, ◌≤◌, length, map, refl, sym, ap, ◌∙◌, subst, arith, inl, inr}
use Rattle.std.proofs.lemmas.Bool.{cases_lt, true≢false}
use Rattle.std.proofs.lemmas.List.{length_push, length-map}
use Rattle.zn_truth.specs.declared.limits.TheConstants.{BLOCK_SIZE}
use Rattle.zn_model.specs.declared.limits.TheConstants.{MAX_REQUESTS, POOL_BLOCKS}
use Rattle.zn_model.specs.Volume.{Queue, queued_blocks}
use Rattle.zn_model.specs.Requests.{queue_refusal}
use Rattle.zn_pool.specs.PoolState.{first_of, filled}
use Rattle.zn_queue.specs.declared.queue.Waiting.{Waiting}
use Rattle.zn_queue.specs.QueueState.{with_request}
use Rattle.zn_queue.specs.Kept.{IsShared, request_in}
use Rattle.zn_queue.proofs.Submitting.{free_told, refused_empty, refused_none, shared_more, requests_more}
use Rattle.zn_queue.proofs.queue.Queue.submit.Goals as goal

pub returns-then-len-clause-free : goal.returns-then-len-clause-free
returns-then-len-clause-free c =
    let a = c.self.inside in
    subst (λ s. length s.pool.free ≡ POOL_BLOCKS - queued_blocks s.queue) c.self.view_is (free_told a.pool a.waiting.items c.self.invariant.shared)

pub returns-in_default-clause-free : goal.returns-in_default-clause-free
returns-in_default-clause-free c =
    let a = c.self.inside in
    subst (λ s. length s.pool.free ≡ POOL_BLOCKS - queued_blocks s.queue) c.self.view_is (free_told a.pool a.waiting.items c.self.invariant.shared)

pub returns-clause-free : goal.returns-clause-free
returns-clause-free c =
    let a = c.self.inside in
    subst (λ s. length s.pool.free ≡ POOL_BLOCKS - queued_blocks s.queue) c.self.view_is (free_told a.pool a.waiting.items c.self.invariant.shared)

pub returns-in_default-clause-refusal : goal.returns-in_default-clause-refusal
returns-in_default-clause-refusal c =
    let a = c.self.inside in
    let len = length c.args.bytes.now in
    let queue : Queue = record { queued = map (request_in a.pool.live) a.waiting.items; finished = a.ended.items; last_ticket = a.last_ticket } in
    let room : length queue.queued + length queue.finished < MAX_REQUESTS = omega (arith, c.if-len.false, c.len.ensures, c.len-2.ensures, a.waiting.ok.0, a.ended.ok.0, length-map a.waiting.items (request_in a.pool.live)) in
    let short : length a.pool.free < len / BLOCK_SIZE = c.in_default.ensures.short.0 refl in
    sym (ap (λ s. queue_refusal s.queue len) c.self.view_is) ∙ refused_empty queue len (length a.pool.free) room (free_told a.pool a.waiting.items c.self.invariant.shared) short

pub returns-clause-refusal : goal.returns-clause-refusal
returns-clause-refusal c =
    let a = c.self.inside in
    let len = length c.args.bytes.now in
    let queue : Queue = record { queued = map (request_in a.pool.live) a.waiting.items; finished = a.ended.items; last_ticket = a.last_ticket } in
    let room : length queue.queued + length queue.finished < MAX_REQUESTS = omega (arith, c.if-len.false, c.len.ensures, c.len-2.ensures, a.waiting.ok.0, a.ended.ok.0, length-map a.waiting.items (request_in a.pool.live)) in
    let enough : len / BLOCK_SIZE ≤ length a.pool.free = elim (cases_lt (length a.pool.free) (len / BLOCK_SIZE)) [
      | inl short ↦ absurd (true≢false (c.in-Some.ensures.short.1 short))
      | inr enough ↦ enough
    ] in
    sym (ap (λ s. queue_refusal s.queue len) c.self.view_is) ∙ refused_none queue len (length a.pool.free) room (free_told a.pool a.waiting.items c.self.invariant.shared) enough

pub invariant_of-self-2 : goal.invariant_of-self-2
invariant_of-self-2 c =
    let a = c.self.inside in
    let bytes = c.args.bytes.now in
    let n = length bytes / BLOCK_SIZE in
    let enough : n ≤ length a.pool.free = elim (cases_lt (length a.pool.free) n) [
      | inl short ↦ absurd (true≢false (c.in-Some.ensures.short.1 short))
      | inr enough ↦ enough
    ] in
    let w : Waiting = record {
      request = record { ticket = a.last_ticket + 1; file = c.args.file; key = c.args.key; offset = c.args.offset; len = length bytes };
      lease = c.in-Some.lease;
    } in
    let some : 1 ≤ n = omega (arith, c.requires.whole.whole, c.requires.whole.some) in
    let shared = shared_more a.pool c.take.new.self n w bytes c.in-Some.ensures.taken enough some (sym c.requires.whole.whole) refl c.requires.most a.waiting.items c.self.invariant.shared in
    record {
      shared = subst (λ p. IsShared p c.push_back_reserved.new.self.items) (sym c.fill.ensures) (subst (λ ws. IsShared (filled c.take.new.self (first_of c.in-Some.lease) bytes) ws) (sym c.push_back_reserved.ensures.items) shared);
      limit = omega (arith, c.if-len.false, c.len.ensures, c.len-2.ensures, a.waiting.ok.0, a.ended.ok.0, ap length c.push_back_reserved.ensures.items, length_push a.waiting.items w);
      waiting_room = omega (arith, c.self.invariant.waiting_room, c.push_back_reserved.ensures.capacity);
      ended_room = c.self.invariant.ended_room;
    }

pub returns-clause-queued : goal.returns-clause-queued
returns-clause-queued c =
    let a = c.self.inside in
    let bytes = c.args.bytes.now in
    let n = length bytes / BLOCK_SIZE in
    let enough : n ≤ length a.pool.free = elim (cases_lt (length a.pool.free) n) [
      | inl short ↦ absurd (true≢false (c.in-Some.ensures.short.1 short))
      | inr enough ↦ enough
    ] in
    let w : Waiting = record {
      request = record { ticket = a.last_ticket + 1; file = c.args.file; key = c.args.key; offset = c.args.offset; len = length bytes };
      lease = c.in-Some.lease;
    } in
    let some : 1 ≤ n = omega (arith, c.requires.whole.whole, c.requires.whole.some) in
    let requests = requests_more a.pool c.take.new.self n w bytes c.in-Some.ensures.taken enough some (sym c.requires.whole.whole) refl c.requires.most a.waiting.items c.self.invariant.shared in
    let queued = ap (λ p. map (request_in p.live) c.push_back_reserved.new.self.items) c.fill.ensures ∙ ap (map (request_in (filled c.take.new.self (first_of c.in-Some.lease) bytes).live)) c.push_back_reserved.ensures.items ∙ requests in
    ap (λ rs. let q : Queue = record { queued = rs; finished = a.ended.items; last_ticket = a.last_ticket + 1 } in q) queued
    ∙ ap (λ s. with_request s.queue c.args.file c.args.key c.args.offset bytes) c.self.view_is
