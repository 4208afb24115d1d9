use Rattle.std.proofs.Common.{arith}
use Rattle.zn_runs.proofs.LaneLaws.{no_lane_differs, some_lane_differs}
use Rattle.zn_runs.proofs.runs.equal_lanes.Goals as goal

pub returns-then-others-eq0 : goal.returns-then-others-eq0
returns-then-others-eq0 c =
    let n = no_lane_differs c.args.bytes.now c.args.at c.args.byte c.requires c.if-others-eq0.true in
    record { within = n.within; equal = n.equal; other = n.other }

pub returns-else-others-eq0 : goal.returns-else-others-eq0
returns-else-others-eq0 c =
    let n = some_lane_differs c.args.bytes.now c.args.at c.args.byte c.requires (omega arith) in
    record { within = n.within; equal = n.equal; other = n.other }
