use Rattle.zn_report.proofs.Walks.{walked_step, walked_behind}
use Rattle.zn_report.proofs.walk.layout.Goals as goal

pub loop-z-preserved : goal.loop-z-preserved
loop-z-preserved c =
    walked_step c.args.aggr c.args.kinds.now c.loop-z.z c.loop-z.layout c.add.new.self c.file_from-file.result c.loop-z.invariant c.loop-z-test.true c.file_from-file.ensures c.in_ok-add.ensures.added

pub add-requires-clause-behind : goal.add-requires-clause-behind
add-requires-clause-behind c = walked_behind c.args.aggr c.args.kinds.now c.loop-z.z c.loop-z.layout c.file_from-file.result c.loop-z.invariant c.file_from-file.ensures
