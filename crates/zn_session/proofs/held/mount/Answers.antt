use Rattle.std.proofs.Common.{◌≡◌, Some, sym, ap, ◌∙◌}
use Rattle.std.specs.Option.{option_copied}
use Rattle.zn_lines.specs.Lines.{Mount}
use Rattle.zn_lines.specs.Session.{line_now}
use Rattle.zn_session.specs.SessionState.{mounted_held}
use Rattle.zn_session.specs.Steps.{Means}
use Rattle.zn_session.specs.declared.held.Held.TheVariants.{Mounted as OnVolume}
use Rattle.zn_session.specs.declared.replies.Reply.TheVariants.{AlreadyMounted}
use Rattle.zn_session.proofs.HeldCases.{with_volume, volume_numbered, volume_unspoilt}
use Rattle.zn_session.proofs.MountLines.{mount_mounted}
use Rattle.zn_session.proofs.held.mount.Goals as goal

pub returns-in-Some-Mounted-clause-means : goal.returns-in-Some-Mounted-clause-means
returns-in-Some-Mounted-clause-means g c = λ kept entropy numbers numbered.
    let is : c.args.held.now ≡ Some (OnVolume c.in-Some-Mounted.volume) = sym c.take.ensures.value ∙ c.in-Some-Mounted.is ∙ ap Some c.in-Some-Mounted.field-0-is in
    let seen = c.in-Some-Mounted.volume in
    with_volume g.D.Zoned.state c.args.held.now seen is (λ h. Means line_now (Mount (option_copied c.args.text)) AlreadyMounted kept entropy h (mounted_held seen) numbers numbers)
    (mount_mounted (option_copied c.args.text) kept entropy seen numbers (volume_numbered g.D.Zoned.state c.args.held.now seen is numbers numbered) (volume_unspoilt g.D.Zoned.state c.args.held.now seen is c.requires.unspoilt))
