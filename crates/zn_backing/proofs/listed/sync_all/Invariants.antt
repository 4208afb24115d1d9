use Rattle.zn_backing.specs.Loops.{AreSynced}
use Rattle.zn_backing.proofs.listed.sync_all.Given as goal

abbrev pub invariant-loop-i : goal.invariant-loop-i
invariant-loop-i g l = AreSynced l.names l.i (g.F.Files.state l.fn.files) (g.F.Files.state l.files)
