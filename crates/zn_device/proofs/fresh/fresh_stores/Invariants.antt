use Rattle.std.proofs.Common.{take}
use Rattle.zn_device.specs.Stores.{AreFresh}
use Rattle.zn_device.proofs.fresh.fresh_stores.Given as goal

-- the zones before the index have their stores
abbrev pub invariant-loop-kind : goal.invariant-loop-kind
invariant-loop-kind l = AreFresh l.shape (take l.kind-index l.kinds) l.stores.items
