use Rattle.std.proofs.Common.{◌≡◌, take, drop, map, ◌++◌}
use Rattle.zn_truth.specs.Orders.{flushed}
use Rattle.zn_zone.specs.Machine.{facts}
use Rattle.zn_device.specs.Stores.{zones_of, HasStores}
use Rattle.zn_device.proofs.commands.flush_all.Given as goal

-- those before the index are flushed
abbrev pub invariant-loop-z : goal.invariant-loop-z
invariant-loop-z l = record {
  done : zones_of (facts l.zones).zones l.stores.items ≡ map flushed (take l.z (zones_of (facts l.zones).zones l.fn.stores.items)) ++ drop l.z (zones_of (facts l.zones).zones l.fn.stores.items);
  stored : HasStores (facts l.zones) l.stores.items;
}
