use Rattle.std.proofs.Common.{ℕ, List, sym, ap, ◌∙◌, subst}
use Rattle.zn_truth.specs.declared.ZoneNo.{ZoneNo}
use Rattle.zn_device.specs.States.{DeviceState}
use Rattle.zn_lines.specs.Lines.{PowerLoss}
use Rattle.zn_lines.specs.Session.{line_now}
use Rattle.zn_script.specs.Cuts.{cuts_meant}
use Rattle.zn_session.specs.Replies.{inject_reply}
use Rattle.zn_session.specs.SessionState.{held_by}
use Rattle.zn_session.specs.Steps.{Means}
use Rattle.zn_session.specs.declared.replies.Reply.{Reply}
use Rattle.zn_session.proofs.Harming.{fewer_zones, loss_means, loss_beyond, loss_unpowered}
use Rattle.zn_session.proofs.injecting.power_loss.Goals as goal

pub returns-in-Some-clause-means : goal.returns-in-Some-clause-means
returns-in-Some-clause-means g c = λ kept entropy numbers numbered.
    let old = held_by g.D.Zoned.state c.args.held.now in
    let new = held_by g.D.Zoned.state c.lose_power.new.held in
    subst (λ (reply : Reply). Means line_now (PowerLoss c.args.fill (cuts_meant c.args.words.now)) reply kept entropy old new numbers numbers) (sym c.reply_to.ensures)
    (subst (λ (cuts : List (ZoneNo × ℕ)). Means line_now (PowerLoss c.args.fill cuts) (inject_reply c.lose_power.result) kept entropy old new numbers numbers) c.in-Some.ensures
    (loss_means c.args.fill c.in-Some.cuts c.lose_power.result kept entropy old new numbers c.lose_power.ensures.harms numbered))

pub returns-in-None-clause-means : goal.returns-in-None-clause-means
returns-in-None-clause-means g c = λ kept entropy numbers numbered.
    loss_beyond c.args.fill (cuts_meant c.args.words.now) kept entropy _ numbers numbered c.requires.unspoilt
    (fewer_zones _ _ c.device.ensures (g.met.D.Zoned.is_within c.device.result.now)) c.in-None.ensures
    (ap (λ (d : DeviceState). d.world.powered) (sym c.device.ensures) ∙ sym c.powered.ensures ∙ c.if-powered.true)

pub returns-in-None-2-clause-means : goal.returns-in-None-2-clause-means
returns-in-None-2-clause-means g c = λ kept entropy numbers numbered.
    loss_unpowered c.args.fill (cuts_meant c.args.words.now) kept entropy _ numbers numbered c.requires.unspoilt
    (ap (λ (d : DeviceState). d.world.powered) (sym c.device.ensures) ∙ sym c.powered.ensures ∙ c.if-powered.false)
