use Rattle.std.proofs.Common.{arith}
use Rattle.zn_fault.proofs.Turning.{off_turn, faulty_turn}
use Rattle.zn_fault.proofs.faulty.FaultyInjects.turn.Goals as goal

pub returns-then-not-self : goal.returns-then-not-self
returns-then-not-self g c = off_turn (g.D.Zoned.state c.args.self.now.dev) _ _ _ _ _ _ (grind arith) c.requires.unspoilt

pub returns : goal.returns
returns g c = faulty_turn _ _ _ _ _ _ _ _ _ c.turn.ensures (g.met.D.Harm.is_calm c.args.self.now.dev) (grind arith)
