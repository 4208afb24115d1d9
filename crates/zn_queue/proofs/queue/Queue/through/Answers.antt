use Rattle.std.proofs.Common.{ap, ◌∙◌}
use Rattle.zn_model.specs.Volume.{is_queued_through}
use Rattle.zn_queue.proofs.Counting.{any_through}
use Rattle.zn_queue.proofs.queue.Queue.through.Goals as goal

pub returns : goal.returns
returns c =
    let a = c.self.inside in
    c.waits_through.ensures ∙ any_through a.pool.live c.args.key a.waiting.items ∙ ap (λ s. is_queued_through s.queue c.args.key) c.self.view_is
