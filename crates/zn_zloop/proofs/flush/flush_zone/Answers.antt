use Rattle.std.proofs.Common.{arith, refl}
use Rattle.zn_files.specs.States.{directory}
use Rattle.zn_zloop.proofs.Flushing.{flush_inside, flush_there, flush_as}
use Rattle.zn_zloop.proofs.flush.flush_zone.Goals as goal

pub flush_file-requires : goal.flush_file-requires
flush_file-requires g c = flush_there (g.F.Files.state c.args.files.now) c.args.zones.now c.args.kepts.now.items c.args.listed.now.items c.args.i c.index.result.now c.zone_name-name.result.now c.kind.result c.requires.device c.requires.within c.requires.place c.index.ensures c.zone_name-name.ensures c.kind.ensures

pub kind-requires : goal.kind-requires
kind-requires g c = (flush_inside (directory (g.F.Files.state c.args.files.now)) c.args.zones.now c.args.kepts.now.items c.args.listed.now.items c.args.i c.index.result.now c.requires.device c.requires.place c.index.ensures).1

pub index-requires-2 : goal.index-requires-2
index-requires-2 g c = let h = (flush_inside (directory (g.F.Files.state c.args.files.now)) c.args.zones.now c.args.kepts.now.items c.args.listed.now.items c.args.i c.index.result.now c.requires.device c.requires.place c.index.ensures).0 in omega (arith, h, c.args.kepts.now.ok.0)

pub index_mut-requires : goal.index_mut-requires
index_mut-requires g c = let h = (flush_inside (directory (g.F.Files.state c.args.files.now)) c.args.zones.now c.args.kepts.now.items c.args.listed.now.items c.args.i c.index.result.now c.requires.device c.requires.place c.index.ensures).0 in omega (arith, h, c.args.kepts.now.ok.0)

pub info-requires : goal.info-requires
info-requires g c = (flush_inside (directory (g.F.Files.state c.args.files.now)) c.args.zones.now c.args.kepts.now.items c.args.listed.now.items c.args.i c.index.result.now c.requires.device c.requires.place c.index.ensures).1

pub returns-clause-flushes : goal.returns-clause-flushes
returns-clause-flushes g c =
    flush_as (directory (g.F.Files.state c.args.files.now)) (directory (g.F.Files.state c.flush_file.new.files)) c.args.zones.now c.args.kepts.now.items c.args.listed.now.items c.args.i c.index.result.now c.zone_name-name.result.now c.kind.result c.is_changed.result c.info.result
    c.index-2.result.now c.index_mut.result.now c.flush.new.self c.requires.device c.requires.within c.requires.place c.index.ensures c.zone_name-name.ensures c.kind.ensures c.index-2.ensures c.index_mut.ensures.value c.is_changed.ensures
    (c.in_ok-flush_file.ensures.changed refl) c.info.ensures c.flush.ensures.durable c.flush.ensures.unflushed c.flush.ensures.mark
