use Rattle.std.proofs.Common.{◌≡◌, Some, ap, ◌∙◌}
use Rattle.zn_truth.specs.Inject.{inject}
use Rattle.zn_session.specs.SessionState.{bare_held, mounted_held}
use Rattle.zn_session.specs.Steps.{Harms}
use Rattle.zn_session.specs.declared.held.Held.TheVariants.{Bare, Mounted as OnVolume}
use Rattle.zn_session.proofs.Harming.{fault_bare, fault_mounted}
use Rattle.zn_session.proofs.HeldCases.{with_volume, volume_unspoilt, without_volume, bare_unspoilt}
use Rattle.zn_session.proofs.injecting.inject.Goals as goal

pub returns-in-Some-Bare-clause-harms : goal.returns-in-Some-Bare-clause-harms
returns-in-Some-Bare-clause-harms g c =
    let dev = c.in-Some-Bare.dev in
    let is : c.args.held.now ≡ Some (Bare dev) = c.in-Some-Bare.is ∙ ap Some c.in-Some-Bare.field-0-is in
    without_volume g.D.Zoned.state c.args.held.now dev is (λ h. Harms (inject h.device.world c.args.fault) c.inject.result h (bare_held (g.D.Zoned.state c.inject.new.self)))
    (fault_bare c.args.fault c.inject.result (g.D.Zoned.state dev) (g.D.Zoned.state c.inject.new.self) (bare_unspoilt g.D.Zoned.state c.args.held.now dev is c.requires.unspoilt) c.inject.ensures.reply c.inject.ensures.waits)

pub returns-in-Some-Mounted-clause-harms : goal.returns-in-Some-Mounted-clause-harms
returns-in-Some-Mounted-clause-harms g c =
    let seen = c.in-Some-Mounted.volume in
    let after = c.inject-in-Some-Mounted in
    let is : c.args.held.now ≡ Some (OnVolume seen) = c.in-Some-Mounted.is ∙ ap Some c.in-Some-Mounted.field-0-is in
    with_volume g.D.Zoned.state c.args.held.now seen is (λ h. Harms (inject h.device.world c.args.fault) after.result h (mounted_held after.new.self))
    (fault_mounted c.args.fault after.result seen after.new.self (volume_unspoilt g.D.Zoned.state c.args.held.now seen is c.requires.unspoilt) after.ensures.reply after.ensures.waits)
