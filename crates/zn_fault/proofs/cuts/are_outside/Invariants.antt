use Rattle.std.proofs.Common.{◌≡◌, drop, Ok}
use Rattle.std.specs.List.{list_any}
use Rattle.zn_truth.specs.Inject.{is_outside}
use Rattle.zn_device.specs.Harms.{Harmed}
use Rattle.zn_fault.proofs.cuts.are_outside.Given as goal

-- the cuts from the index on decide, and the device is as it was
abbrev pub invariant-loop-i : goal.invariant-loop-i
invariant-loop-i g l =
    let t = (g.D.Zoned.state l.fn.dev).world.truth in
    record {
      rest : list_any (is_outside t) (drop l.i l.cuts) ≡ list_any (is_outside t) l.cuts;
      asked : Harmed t (Ok tt) (g.D.Zoned.state l.fn.dev) (g.D.Zoned.state l.dev);
    }
