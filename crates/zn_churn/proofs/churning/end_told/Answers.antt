use Rattle.zn_churn.proofs.churning.end_told.Goals as goal

pub returns : goal.returns
returns g c = rw (← c.from.ensures) c.end_by.ensures
