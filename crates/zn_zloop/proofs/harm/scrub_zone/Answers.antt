use Rattle.std.proofs.Common.{◌*◌, ◌≤◌, Err, Ok, length, refl, subst, sym, ap, ◌∙◌, arith}
use Rattle.std.specs.Prelude.{Bool}
use Rattle.std.proofs.lemmas.Result.{err_from_is_err_and}
use Rattle.zn_truth.specs.Truth.{zone_at, with_zone}
use Rattle.zn_truth.specs.Orders.{Done}
use Rattle.zn_zone.specs.Machine.{facts}
use Rattle.zn_device.specs.Harms.{scrubbed}
use Rattle.zn_files.specs.States.{directory, WhereTold}
use Rattle.zn_stand.specs.Maps.{Name}
use Rattle.zn_zloop.specs.Seen.{truth_seen}
use Rattle.zn_zloop.specs.Served.{IsThere, ChangedWhereTold}
use Rattle.zn_zloop.proofs.Putting.{found, failed_touches, served_touches}
use Rattle.zn_zloop.proofs.Scrubbing.{FileScrubbed, scrub_within, few_flags, scrub_follows}
use Rattle.zn_zloop.proofs.harm.scrub_zone.Goals as goal

pub info-held-requires : goal.info-held-requires
info-held-requires g c = (found (directory (g.F.Files.state c.args.files.now)) c.args.zones.now c.args.kepts.now.items c.args.listed.now.items c.args.z.0 c.requires.device c.requires.within c.requires.zone).zone

pub index-requires : goal.index-requires
index-requires g c =
    let known = found (directory (g.F.Files.state c.args.files.now)) c.args.zones.now c.args.kepts.now.items c.args.listed.now.items c.args.z.0 c.requires.device c.requires.within c.requires.zone in
    omega (arith, known.store, c.args.kepts.now.ok.0)

pub index-requires-2 : goal.index-requires-2
index-requires-2 g c =
    let known = found (directory (g.F.Files.state c.args.files.now)) c.args.zones.now c.args.kepts.now.items c.args.listed.now.items c.args.z.0 c.requires.device c.requires.within c.requires.zone in
    omega (arith, known.store, c.args.kepts.now.ok.0)

pub index_mut-requires : goal.index_mut-requires
index_mut-requires g c =
    let known = found (directory (g.F.Files.state c.args.files.now)) c.args.zones.now c.args.kepts.now.items c.args.listed.now.items c.args.z.0 c.requires.device c.requires.within c.requires.zone in
    omega (arith, known.store, c.args.kepts.now.ok.0)

pub scrub_file-requires-clause-there : goal.scrub_file-requires-clause-there
scrub_file-requires-clause-there g c =
    subst (IsThere (g.F.Files.state c.args.files.now)) (sym c.requires.name) (found (directory (g.F.Files.state c.args.files.now)) c.args.zones.now c.args.kepts.now.items c.args.listed.now.items c.args.z.0 c.requires.device c.requires.within c.requires.zone).there

pub scrub_file-requires-clause-long : goal.scrub_file-requires-clause-long
scrub_file-requires-clause-long g c =
    subst (λ (name : Name). WhereTold (g.F.Files.state c.args.files.now) name (λ bytes. 4096 * length c.index-2.result.now.unflushed.items ≤ length bytes)) (sym c.requires.name)
    (scrub_within (directory (g.F.Files.state c.args.files.now)) c.args.zones.now c.args.kepts.now.items c.args.listed.now.items c.args.z.0 c.index-2.result.now c.requires.device c.requires.within c.requires.zone c.requires.kind c.index-2.ensures)

pub scrub_file-requires-clause-small : goal.scrub_file-requires-clause-small
scrub_file-requires-clause-small g c =
    few_flags (directory (g.F.Files.state c.args.files.now)) c.args.zones.now c.args.kepts.now.items c.args.listed.now.items c.args.z.0 c.index-2.result.now c.requires.device c.requires.within c.requires.zone c.requires.kind c.index-2.ensures

pub returns-in_err-scrub_file-clause-touches : goal.returns-in_err-scrub_file-clause-touches
returns-in_err-scrub_file-clause-touches g c =
    let p = err_from_is_err_and c.from_residual.result c.from_residual.ensures.1 in
    let t = truth_seen (directory (g.F.Files.state c.args.files.now)) (facts c.args.zones.now) c.args.kepts.now.items in
    let meant : Done = record { reply = Ok tt; truth = with_zone t c.args.z.0 (scrubbed (zone_at t c.args.z.0) c.args.fill) } in
    failed_touches meant c.args.name.now (FileScrubbed c.is_changed-changed.result c.index-2.result.now.unflushed.items c.args.fill) c.in_err-scrub_file.field-0.0 c.from_residual.result
    (g.F.Files.state c.args.files.now) (g.F.Files.state c.scrub_file.new.files) (p.1 ∙ ap Err p.2) refl c.in_err-scrub_file.ensures

pub returns-clause-follows : goal.returns-clause-follows
returns-clause-follows g c =
    let served : ChangedWhereTold c.args.name.now (FileScrubbed c.is_changed-changed.result c.index-2.result.now.unflushed.items c.args.fill) (directory (g.F.Files.state c.args.files.now)) (directory (g.F.Files.state c.scrub_file.new.files)) = c.in_ok-scrub_file.ensures.changed refl in
    scrub_follows (directory (g.F.Files.state c.args.files.now)) (directory (g.F.Files.state c.scrub_file.new.files)) c.args.zones.now c.args.kepts.now.items c.args.listed.now.items c.args.z.0 c.args.fill c.args.name.now
    c.info-held.result c.index.result.now c.index-2.result.now c.index_mut.result.now c.rest.new.self c.requires.device c.requires.within c.requires.zone c.requires.kind c.requires.name c.index.ensures c.index-2.ensures c.index_mut.ensures.value c.info-held.ensures
    (subst (λ (b : Bool). ChangedWhereTold c.args.name.now (FileScrubbed b c.index-2.result.now.unflushed.items c.args.fill) (directory (g.F.Files.state c.args.files.now)) (directory (g.F.Files.state c.scrub_file.new.files))) c.is_changed-changed.ensures served)
    c.rest.ensures.durable c.rest.ensures.unflushed c.rest.ensures.mark

pub returns-clause-touches : goal.returns-clause-touches
returns-clause-touches g c =
    let t = truth_seen (directory (g.F.Files.state c.args.files.now)) (facts c.args.zones.now) c.args.kepts.now.items in
    let meant : Done = record { reply = Ok tt; truth = with_zone t c.args.z.0 (scrubbed (zone_at t c.args.z.0) c.args.fill) } in
    served_touches meant c.args.name.now (FileScrubbed c.is_changed-changed.result c.index-2.result.now.unflushed.items c.args.fill) (Ok tt) (g.F.Files.state c.args.files.now) (g.F.Files.state c.scrub_file.new.files) refl c.in_ok-scrub_file.ensures
