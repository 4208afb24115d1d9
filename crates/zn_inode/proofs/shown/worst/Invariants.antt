use Rattle.std.proofs.Common.{◌≡◌, drop}
use Rattle.zn_model.specs.ShownStates.{worst, worse}
use Rattle.zn_inode.proofs.shown.worst.Given as goal

abbrev pub invariant-loop-info : goal.invariant-loop-info
invariant-loop-info l = worse l.cond (worst (drop l.info-index l.infos)) ≡ worst l.infos
