use Rattle.std.proofs.Common.{ap, refl, Some}
use Rattle.zn_churn.proofs.Answered.{answered}
use Rattle.zn_churn.proofs.churning.answer.Goals as goal

pub returns-in-Done-clause-answered : goal.returns-in-Done-clause-answered
returns-in-Done-clause-answered g c =
    answered _ _ _ _ c.requires.goes_on.told (ap Some c.clear.ensures) refl c.in-Done.ensures.means
