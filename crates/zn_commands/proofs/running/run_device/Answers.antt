use Rattle.zn_commands.proofs.RunningLaws.{run_causes, runs_whole}
use Rattle.zn_commands.proofs.running.run_device.Goals as goal

pub returns-clause-causes : goal.returns-clause-causes
returns-clause-causes g c = run_causes c.open_and_run.ensures

pub returns-clause-whole : goal.returns-clause-whole
returns-clause-whole g c = runs_whole c.open_and_run.ensures
