use Rattle.std.proofs.Common.{arith}
use Rattle.zn_truth.specs.Orders.{Manage}
use Rattle.zn_fault.proofs.Faults.{off_commanded, lost_commanded, passed_commanded, struck_commanded, manage_struck}
use Rattle.zn_fault.proofs.faulty.FaultyZoned.manage.Goals as goal

pub returns-then-not-self : goal.returns-then-not-self
returns-then-not-self g c = record { done = off_commanded _ (g.D.Zoned.state c.args.self.now.dev) _ _ _ _ (grind arith) c.requires.unspoilt }

pub returns-in-Some : goal.returns-in-Some
returns-in-Some g c =
    rw (c.go_off.ensures.reply, c.go_off.ensures.powered, c.go_off.ensures.used)
    (record { done = lost_commanded (Manage c.args.z.0 c.args.op) c.in-Some.armed.now c.lose_in_manage-reply.result (g.D.Zoned.state c.args.self.now.dev) (g.D.Zoned.state c.lose_in_manage-reply.new.dev) _ _ _ _ c.lose_in_manage-reply.ensures (rw (c.one-zones.ensures, c.command_of_op-command.ensures) at c.in-Some.ensures) (grind arith) })

pub returns-in-None : goal.returns-in-None
returns-in-None g c =
    record { done = passed_commanded _ _ _ _ _ _ _ _ _ _ c.manage.ensures.done (rw (c.one-zones.ensures, c.command_of_op-command.ensures) at c.in-None.ensures) (rw (c.one-zones.ensures, c.command_of_op-command.ensures) at c.in_default.ensures) (grind arith) (g.met.D.Harm.is_calm c.args.self.now.dev) (g.met.D.Harm.is_faultless c.args.self.now.dev) (g.met.D.Harm.is_faultless c.manage.new.self) }

pub returns-in-Some-strike : goal.returns-in-Some-strike
returns-in-Some-strike g c = record { done = struck_commanded _ _ _ _ _ _ _ _ _ _ _ (manage_struck _ _ c.in-Some-strike.field-0 (g.D.Zoned.state c.args.self.now.dev) c.requires.unspoilt) (rw (c.one-zones.ensures, c.command_of_op-command.ensures) at c.in-Some-strike.ensures) (rw (c.one-zones.ensures, c.command_of_op-command.ensures) at c.in_default.ensures) (grind arith) }
