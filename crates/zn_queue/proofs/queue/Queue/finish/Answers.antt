use Rattle.std.proofs.Common.{◌≡◌, List, ◌∷◌, ◌++◌, map, sym, ap, ◌∙◌, subst}
use Rattle.std.specs.Option.{option_to_list}
use Rattle.zn_model.specs.declared.handles.Done.{Done}
use Rattle.zn_model.specs.Volume.{Queue}
use Rattle.zn_queue.specs.declared.queue.Waiting.{Waiting}
use Rattle.zn_queue.specs.QueueState.{with_outcome}
use Rattle.zn_queue.specs.Kept.{first_block, request_in, AreLeased}
use Rattle.zn_queue.proofs.LeaseLaws.{requests-given}
use Rattle.zn_queue.proofs.queue.Queue.finish.Goals as goal

pub returns-clause-queue : goal.returns-clause-queue
returns-clause-queue c =
    let a = c.self.inside in
    let oldest = c.unwrap-oldest.result in
    let rest = c.pop_front.new.self.items in
    let all : a.waiting.items ≡ oldest ∷ rest = c.pop_front.ensures.items ∙ ap (λ o. option_to_list o ++ rest) c.unwrap-oldest.ensures in
    let leased = subst (λ ws. AreLeased ws a.pool.live) all c.self.invariant.shared.leased in
    let done : Done = record { ticket = oldest.request.ticket; outcome = c.args.outcome } in
    let queue = λ (ws : List Waiting). let q : Queue = record { queued = map (request_in a.pool.live) ws; finished = a.ended.items; last_ticket = a.last_ticket } in q in
    ap (λ p. let q : Queue = record { queued = map (request_in p.live) rest; finished = c.end.new.ended.items; last_ticket = a.last_ticket } in q) c.end.ensures.pool
    ∙ ap (λ rs. let q : Queue = record { queued = rs; finished = c.end.new.ended.items; last_ticket = a.last_ticket } in q) (requests-given rest a.pool.live (first_block oldest) leased.1)
    ∙ ap (λ ds. let q : Queue = record { queued = map (request_in a.pool.live) rest; finished = ds; last_ticket = a.last_ticket } in q) c.end.ensures.ended
    ∙ ap (λ ws. with_outcome (queue ws) c.args.outcome) (sym all)
    ∙ ap (λ s. with_outcome s.queue c.args.outcome) c.self.view_is
