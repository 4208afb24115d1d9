use Rattle.std.proofs.Common.{IsTrue}
use Rattle.zn_host.proofs.folder.sync_changed.Given as goal

-- a sync that failed isn't forgotten
abbrev pub invariant-loop-open : goal.invariant-loop-open
invariant-loop-open l = IsTrue l.initial.is_lost → IsTrue l.is_lost
