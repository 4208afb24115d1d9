use Rattle.std.proofs.Common.{◌≡◌, ◌*◌, ◌^◌, ◌≤◌, take}
use Rattle.zn_model.specs.ShownStates.{holds}
use Rattle.zn_inode.proofs.shown.holds.Given as goal

abbrev pub invariant-loop-info : goal.invariant-loop-info
invariant-loop-info l = record {
  sum : l.held ≡ holds (take l.info-index l.infos);
  most : l.held ≤ l.info-index * 2 ^ 32;
}
