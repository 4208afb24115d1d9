use Rattle.std.proofs.Common.{length, ◌∙◌, arith}
use Rattle.zn_super.proofs.Numbers.{number_read}
use Rattle.zn_super.proofs.block.number_at.Goals as goal

pub returns : goal.returns
returns c = c.read_u32.ensures ∙ number_read _ _ (length c.args.block.now) (omega arith)
