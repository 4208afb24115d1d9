use Rattle.std.proofs.Common.{◌≡◌, Some, ap, ◌∙◌}
use Rattle.zn_lines.specs.Lines.{Mkfs}
use Rattle.zn_lines.specs.Session.{line_now}
use Rattle.zn_script.specs.Items.{format_meant}
use Rattle.zn_session.specs.SessionState.{held_by, mounted_held}
use Rattle.zn_session.specs.Steps.{Means}
use Rattle.zn_session.specs.declared.held.Held.TheVariants.{Mounted as OnVolume}
use Rattle.zn_session.specs.declared.replies.Reply.TheVariants.{AlreadyMounted}
use Rattle.zn_session.proofs.HeldCases.{with_volume, volume_numbered, volume_unspoilt}
use Rattle.zn_session.proofs.MountLines.{mkfs_mounted}
use Rattle.zn_session.proofs.formats.mkfs.Goals as goal

pub returns-in-Some-Mounted-clause-means : goal.returns-in-Some-Mounted-clause-means
returns-in-Some-Mounted-clause-means g c = λ kept numbers numbered.
    let seen = c.in-Some-Mounted.field-0-0 in
    let there = ap Some c.in-Some-Mounted.field-0-is in
    let is : c.args.held.now ≡ Some (OnVolume seen) = c.in-Some-Mounted.is ∙ there in
    let line = Mkfs (format_meant c.args.words.now) in
    with_volume g.D.Zoned.state c.args.held.now seen is (λ h. Means line_now line AlreadyMounted kept c.args.entropy.now h (held_by g.D.Zoned.state (Some c.in-Some-Mounted.field-0)) numbers numbers)
    (with_volume g.D.Zoned.state (Some c.in-Some-Mounted.field-0) seen there (λ h. Means line_now line AlreadyMounted kept c.args.entropy.now (mounted_held seen) h numbers numbers)
    (mkfs_mounted (format_meant c.args.words.now) kept c.args.entropy.now seen numbers (volume_numbered g.D.Zoned.state c.args.held.now seen is numbers numbered) (volume_unspoilt g.D.Zoned.state c.args.held.now seen is c.requires.unspoilt)))
