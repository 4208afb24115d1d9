use Rattle.std.proofs.Common.{◌≡◌, ℕ, ◌<◌, true, get_or}
use Rattle.zn_model.specs.SuperBlock.{is_label_byte}
use Rattle.zn_super.proofs.label.label_len.Given as goal

abbrev pub invariant-loop-i : goal.invariant-loop-i
invariant-loop-i l = (k : ℕ) → k < l.i → is_label_byte (get_or l.bytes k 0) ≡ true
