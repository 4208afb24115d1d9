use Rattle.std.proofs.Common.{◌≡◌, None, replicate}
use Rattle.zn_session.proofs.session.no_handles.Given as goal

abbrev pub invariant-loop : goal.invariant-loop
invariant-loop l = l.numbers.items ≡ replicate l.counter None
