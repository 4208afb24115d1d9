use Rattle.zn_zloop.proofs.Leaving.{resize_first, resize_then}
use Rattle.zn_zloop.proofs.calls.resize_through.Goals as goal

pub returns-in_err-resize-clause-stops : goal.returns-in_err-resize-clause-stops
returns-in_err-resize-clause-stops g c = resize_first c.args.name.now c.args.len (g.F.Files.state c.args.files.now) (g.F.Files.state c.resize.new.files) c.resize.ensures.stops

pub returns-clause-stops : goal.returns-clause-stops
returns-clause-stops g c = resize_then c.args.name.now c.args.len (g.F.Files.state c.args.files.now) (g.F.Files.state c.resize.new.files) (g.F.Files.state c.sync.new.files) c.in_ok-resize.ensures.served c.resize.ensures.stops c.sync.ensures.stops
