use Rattle.zn_fault.proofs.Cutting.{cut_found, cut_passed}
use Rattle.zn_fault.proofs.cuts.cut_of.Goals as goal

pub returns-then-zone-z : goal.returns-then-zone-z
returns-then-zone-z c = cut_found c.args.cuts.now c.loop-i.i c.args.z.0 c.at-blocks.result c.at-blocks.ensures c.if-zone-z.true c.loop-i.invariant

pub loop-i-preserved : goal.loop-i-preserved
loop-i-preserved c = cut_passed c.args.cuts.now c.loop-i.i c.args.z.0 c.at-blocks.result c.at-blocks.ensures c.if-zone-z.false c.loop-i.invariant
