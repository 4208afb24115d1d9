use Rattle.std.proofs.Common.{arith, sym}
use Rattle.zn_base.specs.Decimals.{number_in}
use Rattle.zn_script.proofs.Splitting.{optional_missing, optional_ok, optional_stays}
use Rattle.zn_script.proofs.words.optional_number_at.Goals as goal

pub returns-then-at-line-clause-gives : goal.returns-then-at-line-clause-gives
returns-then-at-line-clause-gives c = optional_missing (number_in c.args.max) c.args.line.now c.args.at (omega arith)

pub returns-in-Some-clause-gives : goal.returns-in-Some-clause-gives
returns-in-Some-clause-gives c = optional_ok (number_in c.args.max) c.in-Some.number c.args.line.now c.args.at c.word_end-end.result c.word_end-end.ensures.word c.word_end-end.ensures.later (sym c.in-Some.ensures.value)

pub returns-in-None-clause-gives : goal.returns-in-None-clause-gives
returns-in-None-clause-gives c = optional_stays (number_in c.args.max) c.args.line.now c.args.at c.word_end-end.result c.word_end-end.ensures.word c.word_end-end.ensures.later (sym c.in-None.ensures.value)
