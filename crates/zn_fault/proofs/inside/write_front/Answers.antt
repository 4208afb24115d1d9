use Rattle.std.proofs.Common.{sym, ◌∙◌, arith}
use Rattle.std.proofs.lemmas.Grind.{common_steps}
use Rattle.zn_fault.proofs.Shortened.{front_written}
use Rattle.zn_fault.proofs.inside.write_front.Goals as goal

pub returns : goal.returns
returns g c =
    front_written c.args.z.0 c.args.at c.args.blocks c.at_most-n.result c.args.bytes.now _ c.args.fill c.write_stored.result c.settle_whole.result
    (g.D.Zoned.state c.args.dev.now) (g.D.Zoned.state c.write_stored.new.dev) (g.D.Zoned.state c.settle_whole.new.dev) (grind (arith, common_steps)) c.at_most-n.ensures c.requires.whole
    c.write_stored.ensures (sym c.unrefused.ensures ∙ c.in_ok-unrefused.was) (g.met.D.Harm.is_calm c.args.dev.now) (g.met.D.Harm.is_faultless c.args.dev.now) (g.met.D.Harm.is_faultless c.write_stored.new.dev)
    c.settle_whole.ensures
