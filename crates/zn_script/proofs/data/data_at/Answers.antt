use Rattle.std.proofs.Common.{arith}
use Rattle.zn_lines.specs.Grammar.{data_of}
use Rattle.zn_script.proofs.DataParts.{has_runs}
use Rattle.zn_script.proofs.Splitting.{word_missing, word_ok, word_bad}
use Rattle.zn_script.proofs.data.data_at.Goals as goal

pub returns-then-at-line-clause-gives : goal.returns-then-at-line-clause-gives
returns-then-at-line-clause-gives c = word_missing data_of c.args.line.now c.args.at (omega arith)

pub returns-in-Some-clause-gives : goal.returns-in-Some-clause-gives
returns-in-Some-clause-gives c = word_ok data_of _ c.args.line.now c.args.at c.word_end-end.result c.word_end-end.ensures.word c.word_end-end.ensures.later (has_runs _ _ c.in-Some.ensures.value)

pub returns-in-None-clause-gives : goal.returns-in-None-clause-gives
returns-in-None-clause-gives c = word_bad data_of c.args.line.now c.args.at c.word_end-end.result c.word_end-end.ensures.word c.word_end-end.ensures.later c.in-None.ensures.value
