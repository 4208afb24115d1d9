use Rattle.std.proofs.Common.{length, arith}
use Rattle.zn_truth.specs.Orders.{ReportFrom}
use Rattle.zn_fault.proofs.Faults.{off_commanded, lost_commanded, passed_commanded, struck_commanded, report_lost, report_struck}
use Rattle.zn_fault.proofs.faulty.FaultyZoned.report.Goals as goal

pub returns-then-not-self-clause-done : goal.returns-then-not-self-clause-done
returns-then-not-self-clause-done g c = off_commanded _ (g.D.Zoned.state c.args.self.now.dev) _ _ _ _ (grind arith) c.requires.unspoilt

pub returns-in-Some-clause-done : goal.returns-in-Some-clause-done
returns-in-Some-clause-done g c =
    rw (c.go_off.ensures.reply, c.go_off.ensures.powered, c.go_off.ensures.used)
    (lost_commanded (ReportFrom c.args.first.0 (length c.args.out.now)) c.in-Some.armed.now c.lose_zones-reply.result (g.D.Zoned.state c.args.self.now.dev) (g.D.Zoned.state c.lose_zones-reply.new.dev) _ _ _ _ (report_lost c.args.first.0 (length c.args.out.now) c.in-Some.armed.now c.lose_zones-reply.result (g.D.Zoned.state c.args.self.now.dev) (g.D.Zoned.state c.lose_zones-reply.new.dev) c.lose_zones-reply.ensures) c.in-Some.ensures (grind arith))

pub returns-in-None-clause-done : goal.returns-in-None-clause-done
returns-in-None-clause-done g c =
    passed_commanded _ _ _ _ _ _ _ _ _ _ c.report.ensures.done c.in-None.ensures c.in_default.ensures (grind arith) (g.met.D.Harm.is_calm c.args.self.now.dev) (g.met.D.Harm.is_faultless c.args.self.now.dev) (g.met.D.Harm.is_faultless c.report.new.self)

pub returns-in-Some-strike-clause-done : goal.returns-in-Some-strike-clause-done
returns-in-Some-strike-clause-done g c = struck_commanded _ _ _ _ _ _ _ _ _ _ _ (report_struck _ _ c.in-Some-strike.field-0 (g.D.Zoned.state c.args.self.now.dev) c.requires.unspoilt) c.in-Some-strike.ensures c.in_default.ensures (grind arith)
