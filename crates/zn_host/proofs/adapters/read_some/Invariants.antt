use Rattle.std.specs.Io.KnownBytes.{Keeps}
use Rattle.zn_host.proofs.adapters.read_some.Given as goal

-- a read that was interrupted gave nothing
abbrev pub invariant-loop : goal.invariant-loop
invariant-loop g l = Keeps (g.R.Read.remaining l.initial.reader) (g.R.Read.remaining l.reader)
