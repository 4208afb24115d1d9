use Rattle.std.proofs.Common.{arith, sym}
use Rattle.zn_lines.specs.Grammar.{fill_of}
use Rattle.zn_script.proofs.Splitting.{optional_missing, optional_ok, optional_stays}
use Rattle.zn_script.proofs.losses.fill_at.Goals as goal

pub returns-then-at-line-clause-gives : goal.returns-then-at-line-clause-gives
returns-then-at-line-clause-gives c = optional_missing fill_of c.args.line.now c.args.at (omega arith)

pub returns-in-Some-clause-gives : goal.returns-in-Some-clause-gives
returns-in-Some-clause-gives c = optional_ok fill_of c.in-Some.byte c.args.line.now c.args.at c.word_end-end.result c.word_end-end.ensures.word c.word_end-end.ensures.later (sym c.in-Some.ensures)

pub returns-in-None-clause-gives : goal.returns-in-None-clause-gives
returns-in-None-clause-gives c = optional_stays fill_of c.args.line.now c.args.at c.word_end-end.result c.word_end-end.ensures.word c.word_end-end.ensures.later (sym c.in-None.ensures)
