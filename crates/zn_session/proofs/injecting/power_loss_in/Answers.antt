use Rattle.std.proofs.Common.{ℕ, List, sym, subst}
use Rattle.zn_truth.specs.declared.ZoneNo.{ZoneNo}
use Rattle.zn_lines.specs.Lines.{PowerLossIn}
use Rattle.zn_lines.specs.Session.{line_now}
use Rattle.zn_script.specs.Cuts.{cuts_meant}
use Rattle.zn_session.specs.Replies.{inject_reply}
use Rattle.zn_session.specs.SessionState.{held_by}
use Rattle.zn_session.specs.Steps.{Means}
use Rattle.zn_session.specs.declared.replies.Reply.{Reply}
use Rattle.zn_session.proofs.Harming.{armed_means, armed_missing, armed_beyond}
use Rattle.zn_session.proofs.injecting.power_loss_in.Goals as goal

pub returns-in_default-clause-means : goal.returns-in_default-clause-means
returns-in_default-clause-means g c = λ kept entropy numbers numbered.
    armed_missing c.args.number c.args.command c.args.done c.args.fill (cuts_meant c.args.words.now) kept entropy _ numbers numbered c.requires.unspoilt c.in_default.ensures.zone

pub returns-in-Some-expand_cuts-clause-means : goal.returns-in-Some-expand_cuts-clause-means
returns-in-Some-expand_cuts-clause-means g c = λ kept entropy numbers numbered.
    let old = held_by g.D.Zoned.state c.args.held.now in
    let new = held_by g.D.Zoned.state c.arm_loss.new.held in
    subst (λ (reply : Reply). Means line_now (PowerLossIn c.args.number c.args.command c.args.done c.args.fill (cuts_meant c.args.words.now)) reply kept entropy old new numbers numbers) (sym c.reply_to.ensures)
    (subst (λ (cuts : List (ZoneNo × ℕ)). Means line_now (PowerLossIn c.args.number c.args.command c.args.done c.args.fill cuts) (inject_reply c.arm_loss.result) kept entropy old new numbers numbers) c.in-Some-expand_cuts.ensures
    (subst (λ (z : ℕ). Means line_now (PowerLossIn z c.args.command c.args.done c.args.fill c.in-Some-expand_cuts.cuts) (inject_reply c.arm_loss.result) kept entropy old new numbers numbers) c.in-Some.ensures.zone
    (armed_means c.in-Some.zone.0 c.args.command c.args.done c.args.fill c.in-Some-expand_cuts.cuts c.arm_loss.result kept entropy old new numbers c.arm_loss.ensures.harms numbered)))

pub returns-in-None-clause-means : goal.returns-in-None-clause-means
returns-in-None-clause-means g c = λ kept entropy numbers numbered.
    armed_beyond c.args.number c.args.command c.args.done c.args.fill (cuts_meant c.args.words.now) kept entropy _ numbers numbered c.requires.unspoilt c.in-Some.ensures.few c.in-None.ensures
