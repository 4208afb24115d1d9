use Rattle.std.proofs.Common.{◌≡◌, Some, sym, ap, subst, ◌∙◌}
use Rattle.zn_lines.specs.Lines.{Umount}
use Rattle.zn_lines.specs.Session.{line_now}
use Rattle.zn_volume.specs.VolumeState.{VolumeState}
use Rattle.zn_session.specs.SessionState.{bare_held, mounted_held}
use Rattle.zn_session.specs.Steps.{Means}
use Rattle.zn_session.specs.declared.held.Held.TheVariants.{Bare, Mounted as OnVolume}
use Rattle.zn_session.specs.declared.replies.Reply.TheVariants.{NotMounted, Done, Refused}
use Rattle.zn_session.proofs.HeldCases.{with_volume, volume_numbered, volume_unspoilt, without_volume, bare_numbered, bare_unspoilt}
use Rattle.zn_session.proofs.MountLines.{umounted, still_on, umount_bare}
use Rattle.zn_session.proofs.held.umount.Goals as goal

pub returns-in-Ok-clause-means : goal.returns-in-Ok-clause-means
returns-in-Ok-clause-means g c = λ kept entropy.
    let is : c.args.held.now ≡ Some (OnVolume c.in-Some-Mounted.volume) = sym c.take.ensures.value ∙ c.in-Some-Mounted.is ∙ ap Some c.in-Some-Mounted.field-0-is in
    let seen = c.in-Some-Mounted.volume in
    with_volume g.D.Zoned.state c.args.held.now seen is (λ h. Means line_now Umount Done kept entropy h (bare_held (g.D.Zoned.state c.in-Ok.dev)) c.args.numbers.now.items c.free_all.new.numbers.items)
    (umounted kept entropy seen _ c.args.numbers.now.items c.free_all.new.numbers.items (volume_unspoilt g.D.Zoned.state c.args.held.now seen is c.requires.unspoilt) c.in-Ok.ensures.passed c.in-Ok.ensures.device c.free_all.ensures)

pub returns-in-Err-clause-means : goal.returns-in-Err-clause-means
returns-in-Err-clause-means g c = λ kept entropy.
    let is : c.args.held.now ≡ Some (OnVolume c.in-Some-Mounted.volume) = sym c.take.ensures.value ∙ c.in-Some-Mounted.is ∙ ap Some c.in-Some-Mounted.field-0-is in
    let seen = c.in-Some-Mounted.volume in
    with_volume g.D.Zoned.state c.args.held.now seen is (λ h. Means line_now Umount (Refused c.in-Err.fail.why) kept entropy h (mounted_held c.in-Err.fail.vol) c.args.numbers.now.items c.args.numbers.now.items)
    (let P : VolumeState → Type 0 = λ v. Means line_now Umount (Refused c.in-Err.fail.why) kept entropy (mounted_held seen) (mounted_held v) c.args.numbers.now.items c.args.numbers.now.items in
    subst P (sym c.in-Err.ensures.unchanged)
    (still_on kept entropy seen c.args.numbers.now.items c.in-Err.fail.why (volume_unspoilt g.D.Zoned.state c.args.held.now seen is c.requires.unspoilt) (volume_numbered g.D.Zoned.state c.args.held.now seen is c.args.numbers.now.items c.requires.numbered) c.in-Err.ensures.refused))

pub returns-in-Some-Bare-clause-means : goal.returns-in-Some-Bare-clause-means
returns-in-Some-Bare-clause-means g c = λ kept entropy.
    let is : c.args.held.now ≡ Some (Bare c.in-Some-Bare.dev) = sym c.take.ensures.value ∙ c.in-Some-Bare.is ∙ ap Some c.in-Some-Bare.field-0-is in
    let d = g.D.Zoned.state c.in-Some-Bare.dev in
    without_volume g.D.Zoned.state c.args.held.now c.in-Some-Bare.dev is (λ h. Means line_now Umount NotMounted kept entropy h (bare_held d) c.args.numbers.now.items c.args.numbers.now.items)
    (umount_bare kept entropy d c.args.numbers.now.items (bare_numbered g.D.Zoned.state c.args.held.now c.in-Some-Bare.dev is c.args.numbers.now.items c.requires.numbered) (bare_unspoilt g.D.Zoned.state c.args.held.now c.in-Some-Bare.dev is c.requires.unspoilt))
