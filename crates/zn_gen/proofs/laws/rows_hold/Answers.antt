use Rattle.std.proofs.Common.{refl}
use Rattle.std.specs.Fmt.{digits}
use Rattle.zn_gen.specs.Churn.{steps_from, churn_lines}
use Rattle.zn_gen.proofs.laws.rows_hold.Goals as goal

pub returns : goal.returns
unfolding digits steps_from churn_lines
returns c =
    record { nine_draws = refl; three_steps = refl; same_seed = refl; six_steps = refl; last_block = refl; no_room = refl }
