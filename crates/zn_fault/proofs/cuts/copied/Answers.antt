use Rattle.zn_fault.proofs.Cutting.{cut_copied}
use Rattle.zn_fault.proofs.cuts.copied.Goals as goal

pub loop-i-preserved : goal.loop-i-preserved
loop-i-preserved c = record {
  done = cut_copied c.args.loss.now.cuts c.loop-i.cuts c.push.new.self c.loop-i.i c.at-blocks.result c.push.result c.loop-i.invariant.done c.loop-i.invariant.fits c.at-blocks.ensures c.push.ensures.added c.push.ensures.room;
  fits = c.loop-i.invariant.fits;
}
