use Rattle.std.proofs.Common.{ℕ, subst, sym, ◌∙◌}
use Rattle.zn_lines.specs.Lines.{TurnTo}
use Rattle.zn_lines.specs.Session.{line_now}
use Rattle.zn_session.specs.Replies.{inject_reply}
use Rattle.zn_session.specs.SessionState.{held_by}
use Rattle.zn_session.specs.Steps.{Means}
use Rattle.zn_session.specs.declared.replies.Reply.{Reply}
use Rattle.zn_session.proofs.Harming.{turn_means, turn_missing, turn_unpowered}
use Rattle.zn_session.proofs.injecting.turn.Goals as goal

pub returns-in-Some-clause-means : goal.returns-in-Some-clause-means
returns-in-Some-clause-means g c = λ kept entropy numbers numbered.
    let old = held_by g.D.Zoned.state c.args.held.now in
    let new = held_by g.D.Zoned.state c.turn_zone.new.held in
    subst (λ (reply : Reply). Means line_now (TurnTo c.args.number c.args.to) reply kept entropy old new numbers numbers) (sym c.reply_to.ensures)
    (subst (λ (z : ℕ). Means line_now (TurnTo z c.args.to) (inject_reply c.turn_zone.result) kept entropy old new numbers numbers) c.in-Some.ensures.zone
    (turn_means c.in-Some.zone.0 c.args.to c.turn_zone.result kept entropy old new numbers c.turn_zone.ensures.harms numbered))

pub returns-in-None-clause-means : goal.returns-in-None-clause-means
returns-in-None-clause-means g c = λ kept entropy numbers numbered.
    turn_missing c.args.number c.args.to kept entropy _ numbers numbered c.requires.unspoilt c.in-None.ensures.zone (sym c.powered.ensures ∙ c.if-powered.true)

pub returns-in-None-2-clause-means : goal.returns-in-None-2-clause-means
returns-in-None-2-clause-means g c = λ kept entropy numbers numbered.
    turn_unpowered c.args.number c.args.to kept entropy _ numbers numbered c.requires.unspoilt (sym c.powered.ensures ∙ c.if-powered.false)
