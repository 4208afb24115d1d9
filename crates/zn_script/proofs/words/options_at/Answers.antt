use Rattle.std.proofs.Common.{arith}
use Rattle.zn_lines.specs.Grammar.{path_of}
use Rattle.zn_script.proofs.Splitting.{optional_missing, optional_ok, optional_stays}
use Rattle.zn_script.proofs.words.options_at.Goals as goal

pub returns-then-at-line-clause-gives : goal.returns-then-at-line-clause-gives
returns-then-at-line-clause-gives c = optional_missing path_of c.args.line.now c.args.at (omega arith)

pub returns-in-Some-clause-gives : goal.returns-in-Some-clause-gives
returns-in-Some-clause-gives c = optional_ok path_of _ c.args.line.now c.args.at c.word_end-end.result c.word_end-end.ensures.word c.word_end-end.ensures.later c.in-Some.ensures.value

pub returns-in-None-clause-gives : goal.returns-in-None-clause-gives
returns-in-None-clause-gives c = optional_stays path_of c.args.line.now c.args.at c.word_end-end.result c.word_end-end.ensures.word c.word_end-end.ensures.later c.in-None.ensures.value
