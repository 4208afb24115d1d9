use Rattle.zn_backing.specs.Looks.{ArePlain}
use Rattle.zn_backing.proofs.looks.no_extra.Given as goal

abbrev pub invariant-loop-i : goal.invariant-loop-i
invariant-loop-i g l = ArePlain l.geo l.names l.i (g.F.Files.state l.fn.files) (g.F.Files.state l.files)
