use Rattle.zn_commands.proofs.AddLaws.{add_causes}
use Rattle.zn_commands.proofs.adding.add.Goals as goal

pub returns-clause-causes : goal.returns-clause-causes
returns-clause-causes g c =
    let files = g.F.Files.state in
    let sink = g.K.Sink.state in
    add_causes c.args.geo.now c.end_add-status.result (files c.args.files) (files c.create-outcome.new.files) (sink c.args.sink.now) (sink c.end_add-status.new.sink)
    c.requires.within (record { outcome = c.create-outcome.result; creates = c.create-outcome.ensures; closed = c.end_add-status.ensures })
