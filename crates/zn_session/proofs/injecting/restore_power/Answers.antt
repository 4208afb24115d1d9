use Rattle.std.proofs.Common.{◌≡◌, Some, Ok, ap, ◌∙◌}
use Rattle.zn_truth.specs.Inject.{power_on}
use Rattle.zn_session.specs.SessionState.{bare_held, mounted_held}
use Rattle.zn_session.specs.Steps.{Harms}
use Rattle.zn_session.specs.declared.held.Held.TheVariants.{Bare, Mounted as OnVolume}
use Rattle.zn_session.proofs.Harming.{restored_bare, restored_mounted}
use Rattle.zn_session.proofs.HeldCases.{with_volume, volume_unspoilt, without_volume, bare_unspoilt}
use Rattle.zn_session.proofs.injecting.restore_power.Goals as goal

pub returns-in-Some-Bare-clause-harms : goal.returns-in-Some-Bare-clause-harms
returns-in-Some-Bare-clause-harms g c =
    let dev = c.in-Some-Bare.dev in
    let is : c.args.held.now ≡ Some (Bare dev) = c.in-Some-Bare.is ∙ ap Some c.in-Some-Bare.field-0-is in
    without_volume g.D.Zoned.state c.args.held.now dev is (λ h. Harms (record { reply = Ok tt; world = power_on h.device.world }) (Ok tt) h (bare_held (g.D.Zoned.state c.power_on.new.self)))
    (restored_bare (g.D.Zoned.state dev) (g.D.Zoned.state c.power_on.new.self) (bare_unspoilt g.D.Zoned.state c.args.held.now dev is c.requires.unspoilt) c.power_on.ensures)

pub returns-in-Some-Mounted-clause-harms : goal.returns-in-Some-Mounted-clause-harms
returns-in-Some-Mounted-clause-harms g c =
    let seen = c.in-Some-Mounted.volume in
    let after = c.power_on-in-Some-Mounted in
    let is : c.args.held.now ≡ Some (OnVolume seen) = c.in-Some-Mounted.is ∙ ap Some c.in-Some-Mounted.field-0-is in
    with_volume g.D.Zoned.state c.args.held.now seen is (λ h. Harms (record { reply = Ok tt; world = power_on h.device.world }) (Ok tt) h (mounted_held after.new.self))
    (restored_mounted seen after.new.self (volume_unspoilt g.D.Zoned.state c.args.held.now seen is c.requires.unspoilt) after.ensures)
