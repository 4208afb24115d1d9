use Rattle.std.proofs.Common.{arith}
use Rattle.std.proofs.lemmas.Grind.{common_steps}
use Rattle.zn_fault.proofs.Striking.{part_struck}
use Rattle.zn_fault.proofs.struck.write_in_part.Goals as goal

pub returns : goal.returns
returns g c =
    rw c.as_fault.ensures
    (part_struck c.args.z.0 c.args.at c.kept-keep.result c.args.bytes.now _ c.args.fault c.write.result (g.D.Zoned.state c.args.dev.now) (g.D.Zoned.state c.write.new.self) c.write.ensures.done
    (g.met.D.Harm.is_calm c.args.dev.now) c.kept-keep.ensures (omega arith) (grind (arith, common_steps)))
