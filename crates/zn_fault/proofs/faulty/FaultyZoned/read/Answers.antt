use Rattle.std.proofs.Common.{length, ◌/◌, arith}
use Rattle.zn_truth.specs.Orders.{ReadAt}
use Rattle.zn_fault.proofs.Faults.{off_commanded, lost_commanded, passed_commanded, struck_commanded, read_lost, read_struck}
use Rattle.zn_fault.proofs.faulty.FaultyZoned.read.Goals as goal

pub returns-then-not-self-clause-done : goal.returns-then-not-self-clause-done
returns-then-not-self-clause-done g c = off_commanded _ (g.D.Zoned.state c.args.self.now.dev) _ _ _ _ (grind arith) c.requires.unspoilt

pub returns-in-Some-clause-done : goal.returns-in-Some-clause-done
returns-in-Some-clause-done g c =
    rw (c.go_off.ensures.reply, c.go_off.ensures.powered, c.go_off.ensures.used)
    (lost_commanded (ReadAt c.args.z.0 c.args.at (length c.args.out.now / 4096)) c.in-Some.armed.now c.lose_zones-reply.result (g.D.Zoned.state c.args.self.now.dev) (g.D.Zoned.state c.lose_zones-reply.new.dev) _ _ _ _ (read_lost c.args.z.0 c.args.at (length c.args.out.now / 4096) c.in-Some.armed.now c.lose_zones-reply.result (g.D.Zoned.state c.args.self.now.dev) (g.D.Zoned.state c.lose_zones-reply.new.dev) c.lose_zones-reply.ensures) (rw c.one-zones.ensures at c.in-Some.ensures) (grind arith))

pub returns-in-None-clause-done : goal.returns-in-None-clause-done
returns-in-None-clause-done g c =
    passed_commanded _ _ _ _ _ _ _ _ _ _ c.read.ensures.done (rw c.one-zones.ensures at c.in-None.ensures) (rw c.one-zones.ensures at c.in_default.ensures) (grind arith) (g.met.D.Harm.is_calm c.args.self.now.dev) (g.met.D.Harm.is_faultless c.args.self.now.dev) (g.met.D.Harm.is_faultless c.read.new.self)

pub returns-in-Some-strike-clause-done : goal.returns-in-Some-strike-clause-done
returns-in-Some-strike-clause-done g c = struck_commanded _ _ _ _ _ _ _ _ _ _ _ (read_struck _ _ _ c.in-Some-strike.field-0 (g.D.Zoned.state c.args.self.now.dev) c.requires.unspoilt) (rw c.one-zones.ensures at c.in-Some-strike.ensures) (rw c.one-zones.ensures at c.in_default.ensures) (grind arith)
