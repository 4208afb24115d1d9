use Rattle.std.proofs.Common.{arith, sym}
use Rattle.zn_words.proofs.Features.{long_refused}
use Rattle.zn_words.proofs.formatting.features_of.Goals as goal

pub returns-then-text-clause-value : goal.returns-then-text-clause-value
returns-then-text-clause-value c = sym (long_refused c.args.text.now (omega arith))
