use Rattle.std.proofs.Common.{inl}
use Rattle.zn_churn.proofs.churning.churn.Goals as goal

pub returns-in-Ok : goal.returns-in-Ok
returns-in-Ok g c = record { means = inl (rw c.in-Ok.ensures.comes c.end_told.ensures) }
