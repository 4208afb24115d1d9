use Rattle.std.proofs.Common.{◌≡◌, ◌*◌, ◌≤◌, Err, Ok, refl, length, subst, sym, ap, ◌∙◌}
use Rattle.std.specs.Option.{option_map}
use Rattle.std.proofs.lemmas.Result.{err_from_is_err_and}
use Rattle.zn_truth.specs.Orders.{WriteAt, done}
use Rattle.zn_zone.specs.Machine.{facts, refusal_in, dev_error}
use Rattle.zn_files.specs.States.{directory, WhereTold}
use Rattle.zn_stand.specs.Maps.{Name}
use Rattle.zn_zloop.specs.Written.{written_file}
use Rattle.zn_zloop.specs.Seen.{truth_seen}
use Rattle.zn_zloop.specs.Served.{IsThere}
use Rattle.zn_zloop.proofs.Sight.{done_reply}
use Rattle.zn_zloop.proofs.Putting.{found, refused_as, failed_touches, served_touches}
use Rattle.zn_zloop.proofs.Writing.{write_within, write_flags, write_as}
use Rattle.zn_zloop.proofs.commands.write_zone.Goals as goal

pub returns-in_err-write-clause-follows : goal.returns-in_err-write-clause-follows
returns-in_err-write-clause-follows g c =
    let p = err_from_is_err_and c.from_residual.result c.from_residual.ensures.1 in
    refused_as (directory (g.F.Files.state c.args.files.now)) (facts c.args.zones.now) (facts c.write.new.self) c.args.kepts.now.items c.args.listed.now.items (WriteAt c.args.z.0 c.args.at c.args.bytes.now) (dev_error c.in_err-write.field-0.0) c.from_residual.result (p.1 ∙ ap Err p.2) c.requires.device (ap facts c.in_err-write.ensures.err)
    (sym c.write.ensures.refused ∙ ap refusal_in c.in_err-write.was)

pub write_file-requires-clause-there : goal.write_file-requires-clause-there
write_file-requires-clause-there g c = subst (IsThere (g.F.Files.state c.args.files.now)) (sym c.requires.name) (found (directory (g.F.Files.state c.args.files.now)) c.args.zones.now c.args.kepts.now.items c.args.listed.now.items c.args.z.0 c.requires.device c.requires.within c.requires.fits.zone).there

pub write_file-requires-clause-within : goal.write_file-requires-clause-within
write_file-requires-clause-within g c =
    subst (λ (name : Name). WhereTold (g.F.Files.state c.args.files.now) name (λ old. 4096 * c.args.at ≤ length old)) (sym c.requires.name)
    (write_within (directory (g.F.Files.state c.args.files.now)) c.args.zones.now c.args.kepts.now.items c.args.listed.now.items c.args.z.0 c.args.at c.args.bytes.now c.requires.device c.requires.within c.requires.fits (sym c.write.ensures.refused ∙ ap refusal_in c.in_ok-write.was))

pub returns-in_err-write_file-clause-touches : goal.returns-in_err-write_file-clause-touches
returns-in_err-write_file-clause-touches g c =
    let p = err_from_is_err_and c.from_residual-in_err-write_file.result c.from_residual-in_err-write_file.ensures.1 in
    failed_touches (done (truth_seen (directory (g.F.Files.state c.args.files.now)) (facts c.args.zones.now) c.args.kepts.now.items) (WriteAt c.args.z.0 c.args.at c.args.bytes.now)) c.args.name.now
    (λ a b. b ≡ option_map (written_file c.is_full-full.result c.args.at c.args.bytes.now) a)
    c.in_err-write_file.field-0.0 c.from_residual-in_err-write_file.result (g.F.Files.state c.args.files.now) (g.F.Files.state c.write_file.new.files) (p.1 ∙ ap Err p.2)
    (done_reply (directory (g.F.Files.state c.args.files.now)) (facts c.args.zones.now) c.args.kepts.now.items (WriteAt c.args.z.0 c.args.at c.args.bytes.now) c.requires.device.kept.count (sym c.write.ensures.refused ∙ ap refusal_in c.in_ok-write.was))
    c.in_err-write_file.ensures

pub write-requires-2-clause-flags : goal.write-requires-2-clause-flags
write-requires-2-clause-flags g c = λ conv.
    write_flags (directory (g.F.Files.state c.args.files.now)) c.args.zones.now c.args.kepts.now.items c.args.listed.now.items c.args.z.0 c.args.at c.args.bytes.now c.index_mut.result.now c.requires.device c.requires.within c.requires.fits (sym c.write.ensures.refused ∙ ap refusal_in c.in_ok-write.was) c.index_mut.ensures.value
    (sym c.kind-kind.ensures ∙ conv)

pub returns-clause-touches : goal.returns-clause-touches
returns-clause-touches g c =
    served_touches (done (truth_seen (directory (g.F.Files.state c.args.files.now)) (facts c.args.zones.now) c.args.kepts.now.items) (WriteAt c.args.z.0 c.args.at c.args.bytes.now)) c.args.name.now
    (λ a b. b ≡ option_map (written_file c.is_full-full.result c.args.at c.args.bytes.now) a)
    (Ok tt) (g.F.Files.state c.args.files.now) (g.F.Files.state c.write_file.new.files)
    (done_reply (directory (g.F.Files.state c.args.files.now)) (facts c.args.zones.now) c.args.kepts.now.items (WriteAt c.args.z.0 c.args.at c.args.bytes.now) c.requires.device.kept.count (sym c.write.ensures.refused ∙ ap refusal_in c.in_ok-write.was))
    c.in_ok-write_file.ensures

pub returns-clause-follows : goal.returns-clause-follows
returns-clause-follows g c =
    write_as (directory (g.F.Files.state c.args.files.now)) (directory (g.F.Files.state c.write_file.new.files)) c.args.zones.now c.write.new.self c.args.kepts.now.items c.args.listed.now.items c.list.new.listed.items c.args.z.0 c.args.at c.args.bytes.now
    c.args.name.now c.kind-kind.result c.shape-shape.result c.is_full-full.result c.index.result.now c.index_mut.result.now c.write-2.new.self
    c.requires.device c.requires.within c.requires.whole c.requires.fits (sym c.write.ensures.refused ∙ ap refusal_in c.in_ok-write.was) c.write.ensures.facts
    c.requires.name c.kind-kind.ensures c.shape-shape.ensures c.is_full-full.ensures c.index_mut.ensures.value c.index.ensures c.in_ok-list.ensures.ok (c.in_ok-write_file.ensures.changed refl)
    c.write-2.ensures.durable c.write-2.ensures.unflushed c.write-2.ensures.mark
