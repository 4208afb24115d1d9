use Rattle.std.proofs.Common.{◌≡◌, Some, ap, ◌∙◌}
use Rattle.zn_truth.specs.declared.Armed.{Armed}
use Rattle.zn_truth.specs.Inject.{arm_loss}
use Rattle.zn_session.specs.SessionState.{bare_held, mounted_held}
use Rattle.zn_session.specs.Steps.{Harms}
use Rattle.zn_session.specs.declared.held.Held.TheVariants.{Bare, Mounted as OnVolume}
use Rattle.zn_session.proofs.Harming.{armed_bare, armed_mounted}
use Rattle.zn_session.proofs.HeldCases.{with_volume, volume_unspoilt, without_volume, bare_unspoilt}
use Rattle.zn_session.proofs.injecting.arm_loss.Goals as goal

pub returns-in-Some-Bare-clause-harms : goal.returns-in-Some-Bare-clause-harms
returns-in-Some-Bare-clause-harms g c =
    let dev = c.in-Some-Bare.dev in
    let waits : Armed = record { zone = c.args.zone; command = c.args.command; carried_out = c.args.done; loss = c.args.loss.now } in
    let is : c.args.held.now ≡ Some (Bare dev) = c.in-Some-Bare.is ∙ ap Some c.in-Some-Bare.field-0-is in
    without_volume g.D.Zoned.state c.args.held.now dev is (λ h. Harms (arm_loss h.device.world waits) c.arm_loss.result h (bare_held (g.D.Zoned.state c.arm_loss.new.self)))
    (armed_bare waits c.arm_loss.result (g.D.Zoned.state dev) (g.D.Zoned.state c.arm_loss.new.self) (bare_unspoilt g.D.Zoned.state c.args.held.now dev is c.requires.unspoilt) c.arm_loss.ensures.reply c.arm_loss.ensures.waits)

pub returns-in-Some-Mounted-clause-harms : goal.returns-in-Some-Mounted-clause-harms
returns-in-Some-Mounted-clause-harms g c =
    let seen = c.in-Some-Mounted.volume in
    let after = c.arm_loss-in-Some-Mounted in
    let waits : Armed = record { zone = c.args.zone; command = c.args.command; carried_out = c.args.done; loss = c.args.loss.now } in
    let is : c.args.held.now ≡ Some (OnVolume seen) = c.in-Some-Mounted.is ∙ ap Some c.in-Some-Mounted.field-0-is in
    with_volume g.D.Zoned.state c.args.held.now seen is (λ h. Harms (arm_loss h.device.world waits) after.result h (mounted_held after.new.self))
    (armed_mounted waits after.result seen after.new.self (volume_unspoilt g.D.Zoned.state c.args.held.now seen is c.requires.unspoilt) after.ensures.reply after.ensures.waits)
