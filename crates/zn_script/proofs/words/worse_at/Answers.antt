use Rattle.std.proofs.Common.{arith, sym}
use Rattle.zn_lines.specs.Grammar.{worse_in}
use Rattle.zn_script.proofs.Splitting.{word_missing, word_ok, word_bad}
use Rattle.zn_script.proofs.words.worse_at.Goals as goal

pub returns-then-at-line-clause-gives : goal.returns-then-at-line-clause-gives
returns-then-at-line-clause-gives c = word_missing worse_in c.args.line.now c.args.at (omega arith)

pub returns-in-Some-clause-gives : goal.returns-in-Some-clause-gives
returns-in-Some-clause-gives c = word_ok worse_in c.in-Some.to c.args.line.now c.args.at c.word_end-end.result c.word_end-end.ensures.word c.word_end-end.ensures.later (sym c.in-Some.ensures)

pub returns-in-None-clause-gives : goal.returns-in-None-clause-gives
returns-in-None-clause-gives c = word_bad worse_in c.args.line.now c.args.at c.word_end-end.result c.word_end-end.ensures.word c.word_end-end.ensures.later (sym c.in-None.ensures)
