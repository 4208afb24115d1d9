use Rattle.std.proofs.Common.{arith, sym}
use Rattle.zn_lines.specs.Grammar.{item_after}
use Rattle.zn_script.specs.Items.{format_meant}
use Rattle.zn_script.proofs.Splitting.{word_missing, word_ok, word_bad}
use Rattle.zn_script.proofs.items.item_at.Goals as goal

pub returns-then-at-line-clause-gives : goal.returns-then-at-line-clause-gives
returns-then-at-line-clause-gives c = word_missing (item_after (format_meant c.args.found)) c.args.line.now c.args.at (omega arith)

pub returns-in-Some-clause-gives : goal.returns-in-Some-clause-gives
returns-in-Some-clause-gives c = word_ok (item_after (format_meant c.args.found)) (format_meant c.in-Some.more) c.args.line.now c.args.at c.word_end-end.result c.word_end-end.ensures.word c.word_end-end.ensures.later (sym c.in-Some.ensures.value)

pub returns-in-None-clause-gives : goal.returns-in-None-clause-gives
returns-in-None-clause-gives c = word_bad (item_after (format_meant c.args.found)) c.args.line.now c.args.at c.word_end-end.result c.word_end-end.ensures.word c.word_end-end.ensures.later (sym c.in-None.ensures.value)
