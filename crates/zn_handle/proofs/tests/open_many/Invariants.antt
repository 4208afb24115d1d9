use Rattle.std.proofs.Common.{◌≡◌}
use Rattle.zn_handle.proofs.tests.open_many.Given as goal

abbrev pub invariant-loop-i : goal.invariant-loop-i
invariant-loop-i g l = (l.handles.files ≡ 3) × (l.handles.handles.opened ≡ l.i-counter)
