use Rattle.std.proofs.Common.{sym, arith}
use Rattle.zn_base.proofs.DecimalLaws.{decimal-number_in}
use Rattle.zn_words.proofs.values.number.Goals as goal

pub overflow_cast-result : goal.overflow_cast-result
overflow_cast-result c = omega (arith, (decimal-number_in c.args.max c.in-Some.number c.args.word.now (omega arith) (sym c.in-Some.ensures)).1)

pub returns-in-Some-clause-small : goal.returns-in-Some-clause-small
returns-in-Some-clause-small c = (decimal-number_in c.args.max c.in-Some.number c.args.word.now (omega arith) (sym c.in-Some.ensures)).1
