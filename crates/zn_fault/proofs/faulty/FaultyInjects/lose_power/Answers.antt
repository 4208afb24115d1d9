use Rattle.std.proofs.Common.{sym, ◌∙◌, arith}
use Rattle.zn_fault.proofs.Powering.{off_loss, good_loss, bad_loss, failed_loss}
use Rattle.zn_fault.proofs.faulty.FaultyInjects.lose_power.Goals as goal

pub returns-then-not-self : goal.returns-then-not-self
returns-then-not-self g c = off_loss (g.D.Zoned.state c.args.self.now.dev) _ _ _ _ _ (grind arith) c.requires.unspoilt

pub returns-in-Ok-true : goal.returns-in-Ok-true
returns-in-Ok-true g c =
    good_loss c.args.loss.now (g.D.Zoned.state c.args.self.now.dev) (g.D.Zoned.state c.lose.new.dev) _ _ _ _ c.in-Ok-true.ensures.harmed (sym c.in-Ok-true.field-0-test ∙ c.in-Ok-true.ensures.value) (grind arith)

pub returns-in-Ok-false : goal.returns-in-Ok-false
returns-in-Ok-false g c =
    bad_loss c.args.loss.now (g.D.Zoned.state c.args.self.now.dev) (g.D.Zoned.state c.lose.new.dev) _ _ _ _ c.in-Ok-false.ensures.harmed (sym c.in-Ok-false.field-0-test ∙ c.in-Ok-false.ensures.value) (grind arith)

pub returns-in-Err : goal.returns-in-Err
returns-in-Err g c =
    rw c.harm_error.ensures (failed_loss c.args.loss.now _ c.in-Err.error (g.D.Zoned.state c.args.self.now.dev) (g.D.Zoned.state c.lose.new.dev) _ _ _ _ c.in-Err.ensures.harmed (grind arith))
