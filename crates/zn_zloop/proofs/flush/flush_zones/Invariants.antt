use Rattle.std.proofs.Common.{◌≡◌, drop}
use Rattle.zn_truth.specs.Orders.{FlushAll, effect}
use Rattle.zn_zone.specs.Machine.{facts}
use Rattle.zn_files.specs.States.{directory}
use Rattle.zn_zloop.specs.Seen.{truth_seen}
use Rattle.zn_zloop.specs.Holding.{IsSoundZloop}
use Rattle.zn_zloop.proofs.flush.flush_zones.Given as goal

-- A flush of what is left of the list makes of the device what it would have made at first.
abbrev pub invariant-loop-i : goal.invariant-loop-i
invariant-loop-i g l = record {
  device : IsSoundZloop (directory (g.F.Files.state l.files)) (facts l.zones) l.kepts.items (drop l.i l.listed.items);
  same : effect (truth_seen (directory (g.F.Files.state l.files)) (facts l.zones) l.kepts.items) FlushAll ≡ effect (truth_seen (directory (g.F.Files.state l.fn.files)) (facts l.fn.zones) l.fn.kepts.items) FlushAll;
  still : (g.F.Files.state l.files).faults ≡ (g.F.Files.state l.fn.files).faults;
}
