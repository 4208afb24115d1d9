use Rattle.std.proofs.Common.{arith}
use Rattle.std.proofs.lemmas.Grind.{common_steps}
use Rattle.zn_fault.proofs.Turning.{worse_turn}
use Rattle.zn_fault.proofs.turned.turn.Goals as goal

pub returns : goal.returns
returns g c =
    rw c.harm_reply.ensures
    (worse_turn (g.D.Zoned.state c.args.dev.now) (g.D.Zoned.state c.info_of.new.dev) (g.D.Zoned.state c.turn.new.self) c.args.z.0 c.args.to c.turn.result c.turn.ensures
    c.in-Ok.ensures.asked (grind (arith, common_steps)) (grind (arith, common_steps, c.in-Ok.ensures.info))
    (g.met.D.Harm.is_calm c.args.dev.now) (g.met.D.Harm.is_calm c.turn.new.self) (g.met.D.Harm.is_faultless c.args.dev.now) (g.met.D.Harm.is_faultless c.turn.new.self))
