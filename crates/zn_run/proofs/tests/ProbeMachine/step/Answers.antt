use Rattle.std.proofs.Common.{◌∙◌, sym, refl, eqb-true, arith}
use Rattle.std.specs.Cmp.Lexicographic.{same_text}
use Rattle.zn_run.proofs.ProbeLaws.{passes_empty, passes_comment, refuses, answers, is_cut, breaks_down, starves}
use Rattle.zn_run.proofs.tests.ProbeMachine.step.Goals as goal

pub returns-then-is_empty : goal.returns-then-is_empty
returns-then-is_empty g c = passes_empty c.args.line.now (eqb-true _ _ (sym (c.if-is_empty.ensures))) c.requires.goes_on

pub returns-then-line-eq35 : goal.returns-then-line-eq35
returns-then-line-eq35 g c = passes_comment c.args.line.now c.if-line-eq35.true c.requires.goes_on

pub returns-then-eq : goal.returns-then-eq
returns-then-eq g c = refuses c.args.line.now (same_text _ _ (c.if-eq.ensures) ∙ c.as_slice.ensures) c.requires.goes_on

pub returns-in-Ok : goal.returns-in-Ok
returns-in-Ok g c = answers c.args.line.now (same_text _ _ (c.if-eq-2.ensures) ∙ c.as_slice-2.ensures) refl refl c.in-Ok.ensures.all c.in-Ok.ensures.cause.kept c.requires.goes_on

pub returns-in-Err : goal.returns-in-Err
returns-in-Err g c =
    is_cut c.args.line.now (same_text _ _ (c.if-eq-2.ensures) ∙ c.as_slice-2.ensures) refl refl c.in-Err.ensures.front (record { later = c.in-Err.ensures.cause.later; rose = c.in-Err.ensures.cause.failed })

pub returns-then-eq-3 : goal.returns-then-eq-3
returns-then-eq-3 g c = breaks_down c.args.line.now (same_text _ _ (c.if-eq-3.ensures) ∙ c.as_slice-3.ensures) refl (omega arith) c.saturating_add-self.ensures

pub returns-then-eq-4 : goal.returns-then-eq-4
returns-then-eq-4 g c = starves c.args.line.now (same_text _ _ (c.if-eq-4.ensures) ∙ c.as_slice-4.ensures)
