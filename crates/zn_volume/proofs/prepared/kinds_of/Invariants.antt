use Rattle.std.proofs.Common.{◌≡◌, take}
use Rattle.zn_truth.specs.World.{geometry_of}
use Rattle.zn_volume.proofs.prepared.kinds_of.Given as goal

-- the kinds of the zones so far
abbrev pub invariant-loop-z : goal.invariant-loop-z
invariant-loop-z g l = l.kinds.items ≡ take l.z (geometry_of (g.D.Zoned.state l.dev).world).kinds
