use Rattle.std.proofs.Common.{◌≡◌, ◌≤◌, ◌<◌, ◌∙◌, ◌+◌, sym, ap, subst, arith}
use Rattle.zn_stand.specs.Directory.{contents}
use Rattle.zn_backing.specs.Looks.{HasZones, AreLooked}
use Rattle.zn_backing.proofs.Looking.{looked_more, zones_failed, zones_all}
use Rattle.zn_backing.proofs.zones.zones_in.Goals as goal

pub returns-in-Err-clause-zones : goal.returns-in-Err-clause-zones
returns-in-Err-clause-zones g c = zones_failed (λ d infos. HasZones (contents d) c.args.geo.now c.args.geo.now.zones infos.items) c.args.geo.now c.loop-z.z c.loop-z.infos.items c.in-Err.e (g.F.Files.state c.args.files.now) (g.F.Files.state c.loop-z.files) (g.F.Files.state c.zone_info.new.files)
    c.loop-z.invariant (omega arith) c.requires.geometry c.in-Err.ensures.steps c.in-Err.ensures.fault

pub loop-z-preserved : goal.loop-z-preserved
loop-z-preserved g c = subst (λ items. AreLooked c.args.geo.now (c.loop-z.z + 1) items (g.F.Files.state c.args.files.now) (g.F.Files.state c.zone_info.new.files)) (sym c.in_ok-push.ensures.items)
    (looked_more c.args.geo.now c.loop-z.z c.loop-z.infos.items c.in-Ok.info (g.F.Files.state c.args.files.now) (g.F.Files.state c.loop-z.files) (g.F.Files.state c.zone_info.new.files) c.loop-z.invariant c.in-Ok.ensures.steps c.in-Ok.ensures.start c.in-Ok.ensures.found)

pub returns-clause-zones : goal.returns-clause-zones
returns-clause-zones g c =
    let all : c.loop-z.z ≡ c.args.geo.now.zones = omega arith in
    zones_all c.loop-z.infos (λ d infos. HasZones (contents d) c.args.geo.now c.args.geo.now.zones infos.items) c.args.geo.now c.loop-z.z c.loop-z.infos.items (g.F.Files.state c.args.files.now) (g.F.Files.state c.loop-z.files) c.loop-z.invariant
    (λ d has. subst (λ n. HasZones (contents d) c.args.geo.now n c.loop-z.infos.items) all has)
