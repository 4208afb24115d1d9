use Rattle.std.proofs.Common.{sym}
use Rattle.zn_fault.proofs.Shortened.{whole_write, short_write}
use Rattle.zn_fault.proofs.inside.write_during.Goals as goal

pub returns-in-Conventional : goal.returns-in-Conventional
returns-in-Conventional g c =
    rw c.unrefused.ensures
    (whole_write c.args.z.0 c.args.at c.args.bytes.now c.args.loss.now c.write.result (g.D.Zoned.state c.args.dev.now) (g.D.Zoned.state c.write.new.self) (sym c.in-Conventional.ensures) c.write.ensures.done
    (g.met.D.Harm.is_calm c.args.dev.now) (g.met.D.Harm.is_faultless c.args.dev.now) (g.met.D.Harm.is_faultless c.write.new.self))

pub returns-in-Sequential : goal.returns-in-Sequential
returns-in-Sequential g c =
    short_write c.args.z.0 c.args.at c.args.bytes.now c.args.loss.now c.cut_write.result (g.D.Zoned.state c.args.dev.now) (g.D.Zoned.state c.cut_write.new.dev) (sym c.in-Sequential.ensures) c.cut_write.ensures
