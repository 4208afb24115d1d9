use Rattle.std.proofs.Common.{◌<◌, length, ap, ◌∙◌, sym, arith}
use Rattle.std.specs.Prelude.{position}
use Rattle.zn_zone.proofs.MarkLaws.{lane_some, read_some, lowest_none, lowest_some}
use Rattle.zn_zone.proofs.marks.Marks.lowest.Goals as goal

pub returns-then-self-eq0 : goal.returns-then-self-eq0
returns-then-self-eq0 c =
    sym (lowest_none c.self.inside.bound c.self.inside.summary c.self.inside.lanes.items c.self.invariant
    c.if-self-eq0.true)
    ∙ ap (position (λ is_marked. is_marked)) c.self.view_is

-- the lowest lane is there
pub index-requires : goal.index-requires
index-requires c =
    let lane = c.lowest_bit-lane.ensures in
    let there : c.lowest_bit-lane.result < length c.self.inside.lanes.items =
    (lane_some c.self.inside.bound c.self.inside.summary c.self.inside.lanes.items c.lowest_bit-lane.result
    c.self.invariant
    (record { bound = lane.bound; here = lane.set; before = lane.below })).0 in
    omega arith

-- and has a mark
pub lowest_bit-requires : goal.lowest_bit-requires
lowest_bit-requires c =
    let lane = c.lowest_bit-lane.ensures in
    read_some c.self.inside.lanes.items c.lowest_bit-lane.result c.index.result.now
    (lane_some c.self.inside.bound c.self.inside.summary c.self.inside.lanes.items c.lowest_bit-lane.result
    c.self.invariant
    (record { bound = lane.bound; here = lane.set; before = lane.below }))
    c.index.ensures

pub returns : goal.returns
returns c =
    let lane = c.lowest_bit-lane.ensures in
    let bit = c.lowest_bit.ensures in
    sym (lowest_some c.self.inside.bound c.self.inside.summary c.self.inside.lanes.items c.lowest_bit-lane.result
    c.index.result.now c.lowest_bit.result c.self.invariant
    (record { bound = lane.bound; here = lane.set; before = lane.below })
    (lane_some c.self.inside.bound c.self.inside.summary c.self.inside.lanes.items c.lowest_bit-lane.result
    c.self.invariant
    (record { bound = lane.bound; here = lane.set; before = lane.below })).0
    c.index.ensures
    (record { bound = bit.bound; here = bit.set; before = bit.below }))
    ∙ ap (position (λ is_marked. is_marked)) c.self.view_is
