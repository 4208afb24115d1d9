use Rattle.std.proofs.Common.{[], ◌∷◌, ◌++◌, arith, sym}
use Rattle.zn_lines.specs.Grammar.{cut_after}
use Rattle.zn_script.specs.Cuts.{cut_meant}
use Rattle.zn_script.proofs.Splitting.{word_missing, word_ok, word_bad}
use Rattle.zn_script.proofs.losses.cut_at.Goals as goal

pub returns-then-at-line-clause-gives : goal.returns-then-at-line-clause-gives
returns-then-at-line-clause-gives c = λ found counted. word_missing (cut_after found) c.args.line.now c.args.at (omega arith)

pub returns-in-Some-clause-gives : goal.returns-in-Some-clause-gives
returns-in-Some-clause-gives c = λ found counted.
    word_ok (cut_after found) (found ++ cut_meant c.in-Some.cut ∷ []) c.args.line.now c.args.at c.word_end-end.result c.word_end-end.ensures.word c.word_end-end.ensures.later
    (sym (c.in-Some.ensures.value found counted))

pub returns-in-None-clause-gives : goal.returns-in-None-clause-gives
returns-in-None-clause-gives c = λ found counted.
    word_bad (cut_after found) c.args.line.now c.args.at c.word_end-end.result c.word_end-end.ensures.word c.word_end-end.ensures.later (sym (c.in-None.ensures.value found counted))
