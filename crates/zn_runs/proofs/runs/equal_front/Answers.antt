use Rattle.std.proofs.Common.{arith}
use Rattle.zn_runs.proofs.LaneLaws.{equal_more, equal_until, equal_whole}
use Rattle.zn_runs.proofs.runs.equal_front.Goals as goal

pub returns-then-count-lt-LANES : goal.returns-then-count-lt-LANES
returns-then-count-lt-LANES c =
    let n = c.equal_lanes-count.ensures in
    equal_until c.args.bytes.now c.args.byte _ (omega arith) (equal_more c.args.bytes.now c.args.byte c.lanes.at c.equal_lanes-count.result c.lanes.invariant.equal n.equal) (n.other c.if-count-lt-LANES.true)

pub returns-else-bytes-at : goal.returns-else-bytes-at
returns-else-bytes-at c = equal_until c.args.bytes.now c.args.byte c.rest.at (omega arith) c.rest.invariant.equal c.if-bytes-at.false

pub returns-after-rest : goal.returns-after-rest
returns-after-rest c = equal_whole c.args.bytes.now c.args.byte c.rest.at c.rest.invariant.within c.rest-test.false c.rest.invariant.equal
