use Rattle.std.proofs.Common.{◌≡◌, ◌+◌, ◌-◌, ◌/◌, ◌<◌, ◌≤◌, true, false, arith}
use Rattle.std.specs.Ordering.{is_lt}
use Rattle.zn_stand.specs.Maps.{name_cmp}
use Rattle.zn_backing.proofs.Looping.{more_below, less_above}
use Rattle.zn_backing.proofs.listed.place_of.Goals as goal

pub loop-low-preserved-then-is_lt : goal.loop-low-preserved-then-is_lt
loop-low-preserved-then-is_lt c =
    let lt : is_lt (name_cmp c.at.result.now c.args.name.now) ≡ true = cc (c.is_lt.ensures, c.cmp.ensures, c.if-is_lt.true) in
    more_below c.args.names.now c.args.name.now c.at.result.now c.loop-low.low c.loop-low.high (c.loop-low.low + (c.loop-low.high - c.loop-low.low) / 2) c.loop-low.invariant (omega arith) (omega arith) c.at.ensures lt

pub loop-low-preserved : goal.loop-low-preserved
loop-low-preserved c =
    let not_lt : is_lt (name_cmp c.at.result.now c.args.name.now) ≡ false = cc (c.is_lt.ensures, c.cmp.ensures, c.if-is_lt.false) in
    less_above c.args.names.now c.args.name.now c.at.result.now c.loop-low.low c.loop-low.high (c.loop-low.low + (c.loop-low.high - c.loop-low.low) / 2) c.loop-low.invariant (omega arith) (omega arith) c.at.ensures not_lt
