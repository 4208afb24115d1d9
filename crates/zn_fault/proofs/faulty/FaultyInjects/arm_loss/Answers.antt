use Rattle.std.proofs.Common.{sym, ap, ◌∙◌, Option, Some}
use Rattle.zn_truth.specs.declared.Armed.{Armed}
use Rattle.zn_truth.specs.declared.LossSpec.{LossSpec}
use Rattle.zn_truth.specs.Inject.{Injected}
use Rattle.zn_device.specs.States.{DeviceState}
use Rattle.zn_fault.specs.FaultState.{faulty_state}
use Rattle.zn_fault.proofs.Powering.{bad_arm, good_arm}
use Rattle.zn_fault.proofs.faulty.FaultyInjects.arm_loss.Goals as goal

pub returns-then-is_bad_arm-clause-reply : goal.returns-then-is_bad_arm-clause-reply
returns-then-is_bad_arm-clause-reply g c =
    sym (ap (λ (i : Injected). i.reply) (bad_arm (faulty_state (g.D.Zoned.state c.args.self.now.dev) c.args.self.now.powered c.args.self.now.pending c.args.self.now.armed c.args.self.now.faults).world
    (record { zone = c.args.z; command = c.args.command; carried_out = c.args.done; loss = c.args.loss.now }) (sym c.is_bad_arm.ensures ∙ c.if-is_bad_arm.true)))

pub returns-then-is_bad_arm-clause-waits : goal.returns-then-is_bad_arm-clause-waits
returns-then-is_bad_arm-clause-waits g c =
    let s = faulty_state (g.D.Zoned.state c.args.self.now.dev) c.args.self.now.powered c.args.self.now.pending c.args.self.now.armed c.args.self.now.faults in
    sym (ap (λ (i : Injected). let d : DeviceState = record s { world = i.world } in d) (bad_arm s.world
    (record { zone = c.args.z; command = c.args.command; carried_out = c.args.done; loss = c.args.loss.now }) (sym c.is_bad_arm.ensures ∙ c.if-is_bad_arm.true)))

pub returns-clause-reply : goal.returns-clause-reply
returns-clause-reply g c =
    sym (ap (λ (i : Injected). i.reply) (good_arm (faulty_state (g.D.Zoned.state c.args.self.now.dev) c.args.self.now.powered c.args.self.now.pending c.args.self.now.armed c.args.self.now.faults).world
    (record { zone = c.args.z; command = c.args.command; carried_out = c.args.done; loss = c.args.loss.now }) (sym c.is_bad_arm.ensures ∙ c.if-is_bad_arm.false)))

pub returns-clause-waits : goal.returns-clause-waits
returns-clause-waits g c =
    let s = faulty_state (g.D.Zoned.state c.args.self.now.dev) c.args.self.now.powered c.args.self.now.pending c.args.self.now.armed c.args.self.now.faults in
    let armed : LossSpec → Armed = λ loss. record { zone = c.args.z; command = c.args.command; carried_out = c.args.done; loss = loss } in
    let waits : Option Armed → DeviceState = λ o. faulty_state (g.D.Zoned.state c.args.self.now.dev) c.args.self.now.powered c.args.self.now.pending o c.args.self.now.faults in
    ap waits c.arm.ensures ∙ ap (λ (loss : LossSpec). waits (Some (armed loss))) c.copied.ensures
    ∙ sym (ap (λ (i : Injected). let d : DeviceState = record s { world = i.world } in d) (good_arm s.world (armed c.args.loss.now) (sym c.is_bad_arm.ensures ∙ c.if-is_bad_arm.false)))
