use Rattle.std.proofs.Common.{arith, sym}
use Rattle.zn_lines.specs.Grammar.{done_in}
use Rattle.zn_script.proofs.Splitting.{optional_missing, optional_ok, optional_stays}
use Rattle.zn_script.proofs.losses.done_at.Goals as goal

pub returns-then-at-line-clause-gives : goal.returns-then-at-line-clause-gives
returns-then-at-line-clause-gives c = optional_missing done_in c.args.line.now c.args.at (omega arith)

pub returns-then-is_done-clause-gives : goal.returns-then-is_done-clause-gives
returns-then-is_done-clause-gives c = optional_ok done_in tt c.args.line.now c.args.at c.word_end-end.result c.word_end-end.ensures.word c.word_end-end.ensures.later (sym (c.if-is_done.ensures {u = tt}))

pub returns-else-is_done-clause-gives : goal.returns-else-is_done-clause-gives
returns-else-is_done-clause-gives c = optional_stays done_in c.args.line.now c.args.at c.word_end-end.result c.word_end-end.ensures.word c.word_end-end.ensures.later (sym (c.if-is_done.ensures {u = tt}))
