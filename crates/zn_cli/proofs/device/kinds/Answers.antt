use Rattle.std.proofs.Common.{◌∙◌, arith}
use Rattle.zn_cli.proofs.KindLists.{kinds_more}
use Rattle.zn_cli.proofs.device.kinds.Goals as goal

pub loop-preserved : goal.loop-preserved
loop-preserved c = c.in_ok-push.ensures.items ∙ kinds_more c.args.scratch.conv c.loop.counter c.loop.kinds.items (omega arith) c.loop.invariant
