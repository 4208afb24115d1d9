use Rattle.std.proofs.Common.{◌<◌, arith}
use Rattle.zn_backing.proofs.Looping.{sync_there, synced_more}
use Rattle.zn_backing.proofs.listed.sync_all.Goals as goal

pub sync-requires : goal.sync-requires
sync-requires g c = sync_there c.args.names.now c.at.result.now c.loop-i.i (g.F.Files.state c.args.files.now) (g.F.Files.state c.loop-i.files) c.loop-i.invariant (omega (arith, c.count-i-end.ensures.count)) c.at.ensures c.requires

pub loop-i-preserved : goal.loop-i-preserved
loop-i-preserved g c = synced_more c.args.names.now c.at.result.now c.loop-i.i (g.F.Files.state c.args.files.now) (g.F.Files.state c.loop-i.files) (g.F.Files.state c.sync.new.files) c.loop-i.invariant (omega (arith, c.count-i-end.ensures.count)) c.at.ensures c.in_ok-sync.ensures.done
