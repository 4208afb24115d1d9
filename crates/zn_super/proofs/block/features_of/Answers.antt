use Rattle.std.proofs.Common.{length, ◌∙◌, arith}
use Rattle.zn_super.proofs.Numbers.{features_read}
use Rattle.zn_super.proofs.block.features_of.Goals as goal

pub returns : goal.returns
returns c = c.read_u64.ensures ∙ features_read _ (length c.args.block.now) (omega arith)
