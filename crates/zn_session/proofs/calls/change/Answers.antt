use Rattle.std.proofs.Common.{refl, sym, subst}
use Rattle.zn_model.specs.declared.answers.Refusal.{Refusal}
use Rattle.zn_lines.specs.Lines.{Changes}
use Rattle.zn_session.specs.Steps.{Answers}
use Rattle.zn_session.specs.declared.replies.Reply.TheVariants.{Refused}
use Rattle.zn_session.proofs.Answering.{still}
use Rattle.zn_session.proofs.LineSteps.{change_step}
use Rattle.zn_session.proofs.calls.change.Goals as goal

pub returns : goal.returns
returns g c = λ kept numbers numbered.
    subst (λ (refusal : Refusal). Answers (Changes c.args.change) (Refused refusal) kept c.args.volume.now c.args.volume.now numbers numbers) (sym c.change.ensures)
    (still tt (change_step _ _ numbers _) refl numbered c.requires.unspoilt)
