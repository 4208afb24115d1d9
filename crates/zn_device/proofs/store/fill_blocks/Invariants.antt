use Rattle.std.specs.Prelude.{vec_capacity}
use Rattle.std.proofs.Common.{◌≡◌, ◌++◌, ◌*◌, length, take, drop}
use Rattle.zn_truth.specs.Power.{with_filled_blocks}
use Rattle.zn_device.proofs.store.fill_blocks.Given as goal

-- the blocks before the index are done
abbrev pub invariant-loop-i : goal.invariant-loop-i
invariant-loop-i l = record {
  done : take (4096 * l.i) l.buffer.items ++ with_filled_blocks l.byte (drop l.i l.flags) (drop (4096 * l.i) l.buffer.items) ≡ with_filled_blocks l.byte l.flags l.fn.buffer.items;
  long : length l.buffer.items ≡ length l.fn.buffer.items;
  room : vec_capacity l.buffer ≡ vec_capacity l.fn.buffer;
}
