use Rattle.zn_base.proofs.FewestRuns.{bytes_of-runs_of, fewest_runs}
use Rattle.zn_base.proofs.laws.runs_are_fewest.Goals as goal

pub returns : goal.returns
returns c = record { same = bytes_of-runs_of; fewest = fewest_runs }
