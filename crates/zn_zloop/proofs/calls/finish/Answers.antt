use Rattle.zn_zloop.proofs.Leaving.{finish_first, finish_then}
use Rattle.zn_zloop.proofs.calls.finish.Goals as goal

pub returns-in_err-sync-clause-stops : goal.returns-in_err-sync-clause-stops
returns-in_err-sync-clause-stops g c = finish_first c.args.name.now c.args.len (g.F.Files.state c.args.files.now) (g.F.Files.state c.sync.new.files) c.sync.ensures.stops

pub returns-clause-stops : goal.returns-clause-stops
returns-clause-stops g c = finish_then c.args.name.now c.args.len (g.F.Files.state c.args.files.now) (g.F.Files.state c.sync.new.files) (g.F.Files.state c.resize_through.new.files) c.in_ok-sync.ensures.served c.sync.ensures.stops c.resize_through.ensures.stops
