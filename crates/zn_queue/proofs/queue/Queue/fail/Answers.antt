use Rattle.std.proofs.Common.{not, eqb, ◌++◌, map, filter, ap, ◌∙◌}
use Rattle.zn_model.specs.Volume.{Queue, failed}
use Rattle.zn_queue.specs.Kept.{request_in}
use Rattle.zn_queue.proofs.Rotating.{failed_requests}
use Rattle.zn_queue.proofs.queue.Queue.fail.Goals as goal

pub returns : goal.returns
returns c =
    let a = c.self.inside in
    let file = c.args.file in
    let left = filter (λ r. not (eqb r.file file)) (map (request_in a.pool.live) a.waiting.items) in
    ap (λ rs. let q : Queue = record { queued = rs; finished = c.end_all_of.new.ended.items; last_ticket = a.last_ticket } in q) c.end_all_of.ensures.requests
    ∙ ap (λ ds. let q : Queue = record { queued = left; finished = ds; last_ticket = a.last_ticket } in q) (c.end_all_of.ensures.ended ∙ ap (λ ds. a.ended.items ++ ds) (failed_requests file a.pool.live a.waiting.items))
    ∙ ap (λ s. failed s.queue file) c.self.view_is
