use Rattle.std.proofs.Common.{Err, Ok, refl, subst, sym, ap, ◌∙◌, arith}
use Rattle.std.specs.Prelude.{◌==◌}
use Rattle.std.proofs.lemmas.Result.{err_from_is_err_and}
use Rattle.zn_truth.specs.Truth.{zone_at, with_zone}
use Rattle.zn_truth.specs.Power.{settled}
use Rattle.zn_truth.specs.Orders.{Done}
use Rattle.zn_zone.specs.Machine.{facts}
use Rattle.zn_files.specs.States.{directory}
use Rattle.zn_zloop.specs.Seen.{truth_seen}
use Rattle.zn_zloop.specs.Served.{IsThere}
use Rattle.zn_zloop.proofs.Putting.{found, failed_touches, served_touches}
use Rattle.zn_zloop.proofs.Settling.{FileSettled, may_cut, settle_follows}
use Rattle.zn_zloop.proofs.harm.settle_zone.Goals as goal

pub info-info-requires : goal.info-info-requires
info-info-requires g c = (found (directory (g.F.Files.state c.args.files.now)) c.args.zones.now c.args.kepts.now.items c.args.listed.now.items c.args.z.0 c.requires.device c.requires.within c.requires.zone.zone).zone

pub index-requires : goal.index-requires
index-requires g c =
    let known = found (directory (g.F.Files.state c.args.files.now)) c.args.zones.now c.args.kepts.now.items c.args.listed.now.items c.args.z.0 c.requires.device c.requires.within c.requires.zone.zone in
    omega (arith, known.store, c.args.kepts.now.ok.0)

pub settle_file-requires-clause-there : goal.settle_file-requires-clause-there
settle_file-requires-clause-there g c =
    subst (IsThere (g.F.Files.state c.args.files.now)) (sym c.requires.name) (found (directory (g.F.Files.state c.args.files.now)) c.args.zones.now c.args.kepts.now.items c.args.listed.now.items c.args.z.0 c.requires.device c.requires.within c.requires.zone.zone).there

pub returns-in_err-settle_file-clause-touches : goal.returns-in_err-settle_file-clause-touches
returns-in_err-settle_file-clause-touches g c =
    let p = err_from_is_err_and c.from_residual.result c.from_residual.ensures.1 in
    let t = truth_seen (directory (g.F.Files.state c.args.files.now)) (facts c.args.zones.now) c.args.kepts.now.items in
    let meant : Done = record { reply = Ok tt; truth = with_zone t c.args.z.0 (settled (zone_at t c.args.z.0) c.args.from c.args.len c.args.fill) } in
    failed_touches meant c.args.name.now (FileSettled (c.index.result.now.durable == c.info-info.result.held) c.args.from c.args.len c.args.fill) c.in_err-settle_file.field-0.0 c.from_residual.result
    (g.F.Files.state c.args.files.now) (g.F.Files.state c.settle_file.new.files) (p.1 ∙ ap Err p.2) refl c.in_err-settle_file.ensures

pub cut-requires : goal.cut-requires
cut-requires g c =
    let may = may_cut (directory (g.F.Files.state c.args.files.now)) c.args.zones.now c.args.kepts.now.items c.args.listed.now.items c.args.z.0 c.args.from c.args.len c.requires.device c.requires.within c.requires.zone c.sound.ensures c.requires.from c.requires.order c.requires.len in
    record { zone = may.zone; kind = may.kind; held = may.held; place = λ full some part. absurd (part (may.whole full)) }

pub index_mut-requires : goal.index_mut-requires
index_mut-requires g c =
    let known = found (directory (g.F.Files.state c.args.files.now)) c.args.zones.now c.args.kepts.now.items c.args.listed.now.items c.args.z.0 c.requires.device c.requires.within c.requires.zone.zone in
    omega (arith, known.store, c.args.kepts.now.ok.0)

pub returns-clause-follows : goal.returns-clause-follows
returns-clause-follows g c =
    settle_follows (directory (g.F.Files.state c.args.files.now)) (directory (g.F.Files.state c.settle_file.new.files)) c.args.zones.now c.cut.new.self c.args.kepts.now.items c.args.listed.now.items c.args.z.0 c.args.from c.args.len c.args.fill c.args.name.now
    c.info-info.result c.index.result.now c.index_mut.result.now c.rest.new.self c.requires.device c.requires.within c.requires.zone c.requires.name c.requires.from c.requires.order c.requires.len c.index.ensures c.index_mut.ensures.value c.info-info.ensures
    (c.in_ok-settle_file.ensures.changed refl) c.cut.ensures.facts c.rest.ensures.durable c.rest.ensures.unflushed c.rest.ensures.mark

pub returns-clause-touches : goal.returns-clause-touches
returns-clause-touches g c =
    let t = truth_seen (directory (g.F.Files.state c.args.files.now)) (facts c.args.zones.now) c.args.kepts.now.items in
    let meant : Done = record { reply = Ok tt; truth = with_zone t c.args.z.0 (settled (zone_at t c.args.z.0) c.args.from c.args.len c.args.fill) } in
    served_touches meant c.args.name.now (FileSettled (c.index.result.now.durable == c.info-info.result.held) c.args.from c.args.len c.args.fill) (Ok tt) (g.F.Files.state c.args.files.now) (g.F.Files.state c.settle_file.new.files) refl c.in_ok-settle_file.ensures
