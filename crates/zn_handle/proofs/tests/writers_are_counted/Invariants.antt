use Rattle.std.proofs.Common.{◌≡◌}
use Rattle.zn_handle.proofs.tests.writers_are_counted.Given as goal

abbrev pub invariant-loop-h : goal.invariant-loop-h
invariant-loop-h g l = l.handles.files ≡ 3
