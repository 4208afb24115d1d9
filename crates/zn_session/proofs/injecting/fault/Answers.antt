use Rattle.std.proofs.Common.{ℕ, subst, sym}
use Rattle.zn_lines.specs.Lines.{FaultOn}
use Rattle.zn_lines.specs.Session.{line_now}
use Rattle.zn_session.specs.Replies.{inject_reply}
use Rattle.zn_session.specs.SessionState.{held_by}
use Rattle.zn_session.specs.Steps.{Means}
use Rattle.zn_session.specs.declared.replies.Reply.{Reply}
use Rattle.zn_session.proofs.Harming.{fault_means, fault_missing}
use Rattle.zn_session.proofs.injecting.fault.Goals as goal

pub returns-in-Some-clause-means : goal.returns-in-Some-clause-means
returns-in-Some-clause-means g c = λ kept entropy numbers numbered.
    let old = held_by g.D.Zoned.state c.args.held.now in
    let new = held_by g.D.Zoned.state c.inject.new.held in
    subst (λ (reply : Reply). Means line_now (FaultOn c.args.number c.args.command c.args.keep) reply kept entropy old new numbers numbers) (sym c.reply_to.ensures)
    (subst (λ (z : ℕ). Means line_now (FaultOn z c.args.command c.args.keep) (inject_reply c.inject.result) kept entropy old new numbers numbers) c.in-Some.ensures.zone
    (fault_means c.in-Some.zone.0 c.args.command c.args.keep c.inject.result kept entropy old new numbers c.inject.ensures.harms numbered))

pub returns-in-None-clause-means : goal.returns-in-None-clause-means
returns-in-None-clause-means g c = λ kept entropy numbers numbered.
    fault_missing c.args.number c.args.command c.args.keep kept entropy _ numbers c.in-None.ensures.zone numbered c.requires.unspoilt
