use Rattle.std.proofs.Common.{◌≡◌, ◌≤◌, ◌-◌, ◌++◌, length, take}
use Rattle.zn_runs.specs.Rest.{text_from}
use Rattle.zn_runs.proofs.runs.put_runs.Given as goal

-- the runs before this place are held
abbrev pub invariant-loop-next : goal.invariant-loop-next
invariant-loop-next l = record {
  later : l.from ≤ l.next;
  within : l.next ≤ length l.bytes;
  held : l.held ≤ length l.buffer;
  begun : l.next ≡ l.from → l.held ≡ 0;
  text : text_from l.bytes l.from ≡ take l.held l.buffer ++ text_from l.bytes l.next;
}

abbrev pub decreases-loop-next : goal.decreases-loop-next
decreases-loop-next l = length l.bytes - l.next
