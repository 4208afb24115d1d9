use Rattle.std.proofs.Common.{◌<◌, IsTrue, ap, ◌∙◌, subst, arith}
use Rattle.zn_model.specs.Volume.{queued_bytes, is_queued}
use Rattle.zn_queue.proofs.LeaseLaws.{each_leased}
use Rattle.zn_queue.proofs.Counting.{passed_bytes, passed_most, passed_some, some_passed}
use Rattle.zn_queue.proofs.queue.Queue.queued.Goals as goal

pub returns-clause-bytes : goal.returns-clause-bytes
returns-clause-bytes c =
    let a = c.self.inside in
    let each = each_leased a.waiting.items a.pool.live c.self.invariant.shared.leased in
    c.bytes_for.ensures ∙ passed_bytes c.args.file a.pool.live a.waiting.items each ∙ ap (λ s. queued_bytes s.queue c.args.file) c.self.view_is

pub returns-clause-some : goal.returns-clause-some
returns-clause-some c =
    let a = c.self.inside in
    let each = each_leased a.waiting.items a.pool.live c.self.invariant.shared.leased in
    subst (λ s. (0 < c.bytes_for.result → IsTrue (is_queued s.queue c.args.file)) × (IsTrue (is_queued s.queue c.args.file) → 0 < c.bytes_for.result)) c.self.view_is (
      λ more. passed_some c.args.file a.pool.live a.waiting.items each (subst (λ n. 0 < n) c.bytes_for.ensures more),
      λ any. omega (arith, some_passed c.args.file a.pool.live a.waiting.items each any, c.bytes_for.ensures),
    )

pub returns-clause-most : goal.returns-clause-most
returns-clause-most c =
    let a = c.self.inside in
    let each = each_leased a.waiting.items a.pool.live c.self.invariant.shared.leased in
    omega (arith, c.bytes_for.ensures, passed_most c.args.file a.pool.live a.waiting.items each, c.self.invariant.shared.total)
