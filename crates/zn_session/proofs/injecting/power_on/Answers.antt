use Rattle.zn_session.proofs.Harming.{restored_means}
use Rattle.zn_session.proofs.injecting.power_on.Goals as goal

pub returns-clause-means : goal.returns-clause-means
returns-clause-means g c = λ kept entropy numbers numbered. restored_means kept entropy _ _ numbers c.restore_power.ensures.harms numbered
