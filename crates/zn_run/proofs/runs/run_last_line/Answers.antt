use Rattle.zn_run.proofs.LastLaws.{last_done, last_bad, last_broken, last_cut, last_starved}
use Rattle.zn_run.proofs.runs.run_last_line.Goals as goal

pub returns-in-Done : goal.returns-in-Done
returns-in-Done g c = last_done c.args.number c.requires.one c.requires.some c.requires.fits c.in-Done.ensures c.end_done.ensures

pub returns-in-BadLine : goal.returns-in-BadLine
returns-in-BadLine g c = last_bad c.args.number c.requires.goes_on c.requires.one c.requires.some c.requires.fits c.in-BadLine.ensures c.end_by_script.ensures

pub returns-in-Broken : goal.returns-in-Broken
returns-in-Broken g c = last_broken c.args.number c.requires.goes_on c.requires.one c.requires.some c.requires.fits c.in-Broken.ensures c.end_broken.ensures

pub returns-in-SinkFault : goal.returns-in-SinkFault
returns-in-SinkFault g c = last_cut c.args.number c.requires.goes_on c.requires.one c.requires.some c.requires.fits c.in-SinkFault.ensures

pub returns-in-Memory : goal.returns-in-Memory
returns-in-Memory g c = last_starved c.args.number c.requires.goes_on c.requires.one c.requires.some c.requires.fits c.in-Memory.ensures c.end_starved.ensures
