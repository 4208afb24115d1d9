use Rattle.std.proofs.Common.{◌≡◌, Some, ap, ◌∙◌}
use Rattle.zn_lines.specs.Session.{line_now}
use Rattle.zn_script.specs.Meant.{line_meant}
use Rattle.zn_session.specs.Replies.{kept_as}
use Rattle.zn_session.specs.SessionState.{held_by, bare_held, mounted_held}
use Rattle.zn_session.specs.Steps.{Means}
use Rattle.zn_session.specs.declared.held.Held.TheVariants.{Bare, Mounted as OnVolume}
use Rattle.zn_session.specs.declared.replies.Reply.TheVariants.{NotMounted}
use Rattle.zn_session.proofs.HeldCases.{with_volume, without_volume, bare_numbered, bare_unspoilt}
use Rattle.zn_session.proofs.Meanings.{called, not_mounted}
use Rattle.zn_session.proofs.session.call.Goals as goal

pub returns-in-Some-Mounted-clause-means : goal.returns-in-Some-Mounted-clause-means
returns-in-Some-Mounted-clause-means g c = λ zones entropy.
    let seen = c.in-Some-Mounted.volume in
    let is : c.args.held.now ≡ Some (OnVolume seen) = c.in-Some-Mounted.is ∙ ap Some c.in-Some-Mounted.field-0-is in
    with_volume g.D.Zoned.state c.args.held.now seen is (λ h. Means line_now (line_meant c.args.line.now) c.answer.result (kept_as c.answer.new.buffer.items zones) entropy h (mounted_held c.answer.new.volume) c.args.numbers.now.items c.answer.new.numbers.items)
    (called c.args.line.now c.answer.result (kept_as c.answer.new.buffer.items zones) entropy seen c.answer.new.volume c.args.numbers.now.items c.answer.new.numbers.items c.requires.call (c.answer.ensures.answers zones))

pub returns-in-Some-Bare-clause-means : goal.returns-in-Some-Bare-clause-means
returns-in-Some-Bare-clause-means g c = λ zones entropy.
    let dev = c.in-Some-Bare.field-0-0 in
    let d = g.D.Zoned.state dev in
    let there = ap Some c.in-Some-Bare.field-0-is in
    let is : c.args.held.now ≡ Some (Bare dev) = c.in-Some-Bare.is ∙ there in
    let numbers = c.args.numbers.now.items in
    without_volume g.D.Zoned.state c.args.held.now dev is (λ h. Means line_now (line_meant c.args.line.now) NotMounted (kept_as c.args.buffer.now.items zones) entropy h (held_by g.D.Zoned.state (Some c.in-Some-Bare.field-0)) numbers numbers)
    (without_volume g.D.Zoned.state (Some c.in-Some-Bare.field-0) dev there (λ h. Means line_now (line_meant c.args.line.now) NotMounted (kept_as c.args.buffer.now.items zones) entropy (bare_held d) h numbers numbers)
    (not_mounted c.args.line.now (kept_as c.args.buffer.now.items zones) entropy d numbers c.requires.call (bare_numbered g.D.Zoned.state c.args.held.now dev is numbers c.requires.numbered) (bare_unspoilt g.D.Zoned.state c.args.held.now dev is c.requires.unspoilt)))
