use Rattle.std.proofs.Common.{◌≡◌, ◌+◌, ◌<◌, [], ◌∷◌, ◌++◌, length, sym, ap, ◌∙◌, subst, arith}
use Rattle.std.specs.Option.{option_to_list}
use Rattle.std.specs.VecDeque.{deque_capacity}
use Rattle.std.proofs.lemmas.Bool.{eq-eqb, ne_eqb}
use Rattle.std.proofs.lemmas.List.{length_push}
use Rattle.zn_pool.specs.PoolState.{PoolState, given}
use Rattle.zn_queue.specs.Kept.{first_block}
use Rattle.zn_queue.proofs.Rotating.{IsRotated, failed_done, rotated_other, rotated_failed, rotated_requests}
use Rattle.zn_queue.proofs.queue.end_all_of.Goals as goal
use Rattle.zn_queue.proofs.queue.end_all_of.Goals.{then-oldest-file, else-oldest-file}

pub loop-preserved : goal.loop-preserved
loop-preserved c =
    let file = c.args.file in
    let k = c.loop.counter in
    let start = c.args.pool.now in
    let all = c.args.waiting.now.items in
    let before = c.args.ended.now.items in
    let oldest = c.unwrap-oldest.result in
    let rest = c.pop_front.new.self.items in
    let front : c.loop.waiting.items ≡ oldest ∷ rest = c.pop_front.ensures.items ∙ ap (λ o. option_to_list o ++ rest) c.unwrap-oldest.ensures in
    let it = subst (λ ws. IsRotated file k start c.loop.pool all ws before c.loop.ended.items) front c.loop.invariant.0 in
    let more : k < length all = omega (arith, c.loop-test.true, c.len-end.ensures, c.args.waiting.now.ok.0) in
    let one = ap length front in
    elim c.if-oldest-file.branch [
      | then-oldest-file w ↦
          let next = rotated_failed file k start c.loop.pool all oldest rest before c.loop.ended.items more it (eq-eqb oldest.request.file file w.if-oldest-file.true) in
          let pool = ap (λ (p : PoolState). p) w.pool-is ∙ w.end.ensures.pool in
          let waiting = ap (λ q. q.items) w.waiting-is in
          let ended = ap (λ q. q.items) w.ended-is ∙ w.end.ensures.ended in (
            subst (λ p. IsRotated file (k + 1) start p all c.if-oldest-file.waiting.items before c.if-oldest-file.ended.items) (sym pool)
                (subst (λ ws. IsRotated file (k + 1) start (given c.loop.pool (first_block oldest)) all ws before c.if-oldest-file.ended.items) (sym waiting)
                (subst (λ ds. IsRotated file (k + 1) start (given c.loop.pool (first_block oldest)) all rest before ds) (sym ended) next)),
            omega (arith, c.loop.invariant.1, one, ap length waiting, ap length ended, length_push c.loop.ended.items (failed_done oldest)),
            ap (λ q. deque_capacity q) w.waiting-is ∙ c.pop_front.ensures.capacity ∙ c.loop.invariant.2,
            ap (λ q. deque_capacity q) w.ended-is ∙ w.end.ensures.capacity ∙ c.loop.invariant.3,
          )
      | else-oldest-file w ↦
          let next = rotated_other file k start c.loop.pool all oldest rest before c.loop.ended.items more it (ne_eqb oldest.request.file file w.if-oldest-file.false) in
          let waiting = ap (λ q. q.items) w.waiting-is ∙ w.push_back_reserved.ensures.items in
          let ended = ap (λ q. q.items) w.ended-is in (
            subst (λ p. IsRotated file (k + 1) start p all c.if-oldest-file.waiting.items before c.if-oldest-file.ended.items) (sym w.pool-is)
                (subst (λ ws. IsRotated file (k + 1) start c.loop.pool all ws before c.if-oldest-file.ended.items) (sym waiting)
                (subst (λ ds. IsRotated file (k + 1) start c.loop.pool all (rest ++ oldest ∷ []) before ds) (sym ended) next)),
            omega (arith, c.loop.invariant.1, one, ap length waiting, ap length ended, length_push rest oldest),
            ap (λ q. deque_capacity q) w.waiting-is ∙ w.push_back_reserved.ensures.capacity ∙ c.pop_front.ensures.capacity ∙ c.loop.invariant.2,
            ap (λ q. deque_capacity q) w.ended-is ∙ c.loop.invariant.3,
          )
    ]

pub returns-clause-requests : goal.returns-clause-requests
returns-clause-requests c =
    rotated_requests c.args.file c.loop.counter c.args.pool.now c.loop.pool c.args.waiting.now.items c.loop.waiting.items c.args.ended.now.items c.loop.ended.items (omega (arith, c.loop-test.false, c.len-end.ensures, c.args.waiting.now.ok.0)) c.loop.invariant.0
