use Rattle.std.proofs.Common.{◌≡◌, ◌≤◌}
use Rattle.std.specs.Prelude.{count_by}
use Rattle.std.specs.List.{range_with_len}
use Rattle.zn_inode.specs.Kept.{is_active_in}
use Rattle.zn_inode.proofs.inodes.count_active.Given as goal

-- the active ones of the files so far
abbrev pub invariant-loop-f : goal.invariant-loop-f
invariant-loop-f l = (l.active ≡ count_by (is_active_in l.layout l.shape l.shown) (range_with_len 0 l.f)) × (l.active ≤ l.f)
