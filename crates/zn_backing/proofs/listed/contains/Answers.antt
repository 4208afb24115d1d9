use Rattle.std.proofs.Common.{◌≡◌, ◌∙◌, ◌<◌, ◌≤◌, ap, ltb, length, arith}
use Rattle.zn_backing.proofs.Looping.{told_there, told_absent}
use Rattle.zn_backing.proofs.listed.contains.Goals as goal

pub returns-then-at-count : goal.returns-then-at-count
returns-then-at-count c = c.eq.ensures ∙ told_there c.args.names.now c.args.name.now c.at.result.now c.place_of-at.result (omega (arith, c.count.ensures.count)) c.count.ensures.order c.place_of-at.ensures.below c.place_of-at.ensures.above c.at.ensures

pub returns-else-at-count : goal.returns-else-at-count
returns-else-at-count c = ap (ltb c.place_of-at.result) c.count.ensures.count ∙ told_absent c.args.names.now c.args.name.now c.place_of-at.result (omega (arith, c.count.ensures.count)) c.count.ensures.order c.place_of-at.ensures.below
