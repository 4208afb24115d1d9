use Rattle.std.proofs.Common.{◌<◌, length, sym, arith}
use Rattle.std.proofs.lemmas.List.Sums.{prefix_len_is}
use Rattle.zn_model.specs.SuperBlock.{is_label_byte}
use Rattle.zn_super.proofs.label.label_len.Goals as goal

pub returns : goal.returns
returns c =
    sym (prefix_len_is is_label_byte c.args.bytes.now (length c.args.bytes.now) 0 (omega arith)
    (λ k h. c.loop-i.invariant k (omega arith))
    (λ (h : length c.args.bytes.now < length c.args.bytes.now). absurd (omega arith)))
