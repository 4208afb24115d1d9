use Rattle.std.proofs.Common.{Err, Ok, refl, subst, sym, ap, ◌∙◌}
use Rattle.std.proofs.lemmas.Result.{err_from_is_err_and}
use Rattle.zn_truth.specs.declared.ZoneInfo.{ZoneInfo}
use Rattle.zn_truth.specs.Loss.{turned}
use Rattle.zn_zone.specs.Machine.{facts}
use Rattle.zn_files.specs.States.{directory}
use Rattle.zn_stand.specs.ZoneNames.{zone_name}
use Rattle.zn_zloop.specs.Seen.{truth_seen}
use Rattle.zn_zloop.specs.Served.{IsThere}
use Rattle.zn_zloop.specs.Turned.{marker_name}
use Rattle.zn_zloop.proofs.Putting.{found}
use Rattle.zn_zloop.proofs.Turning.{turn_touches, turn_missing, turn_worse, turn_follows}
use Rattle.zn_zloop.proofs.turn.turn_zone.Goals as goal

pub turn_files-requires-clause-there : goal.turn_files-requires-clause-there
turn_files-requires-clause-there g c = subst (IsThere (g.F.Files.state c.args.files.now)) (sym c.requires.name) (found (directory (g.F.Files.state c.args.files.now)) c.args.zones.now c.args.kepts.now.items c.args.listed.now.items c.args.z.0 c.requires.device c.requires.within c.requires.zone).there

pub turn_files-requires-clause-name : goal.turn_files-requires-clause-name
turn_files-requires-clause-name g c = c.requires.name ∙ ap (λ k. zone_name k c.args.z.0) (sym c.kind-kind.ensures)

pub turn_files-requires-clause-missing : goal.turn_files-requires-clause-missing
turn_files-requires-clause-missing g c =
    turn_missing (directory (g.F.Files.state c.args.files.now)) c.args.zones.now c.args.kepts.now.items c.args.listed.now.items c.args.z.0 c.args.to c.kind-kind.result
    c.requires.device c.requires.within c.requires.zone c.requires.worse c.kind-kind.ensures

pub turn-requires-clause-worse : goal.turn-requires-clause-worse
turn-requires-clause-worse g c =
    turn_worse (directory (g.F.Files.state c.args.files.now)) c.args.zones.now c.args.kepts.now.items c.args.listed.now.items c.args.z.0 c.args.to c.requires.device c.requires.within c.requires.zone c.requires.worse

pub returns-in_err-turn_files-clause-touches : goal.returns-in_err-turn_files-clause-touches
returns-in_err-turn_files-clause-touches g c =
    let p = err_from_is_err_and c.from_residual.result c.from_residual.ensures.1 in
    turn_touches (turned (truth_seen (directory (g.F.Files.state c.args.files.now)) (facts c.args.zones.now) c.args.kepts.now.items) c.args.z.0 c.args.to) c.args.name.now (marker_name c.args.to c.kind-kind.result c.args.z.0)
    (Err c.in_err-turn_files.field-0.0) c.from_residual.result (g.F.Files.state c.args.files.now) (g.F.Files.state c.turn_files.new.files) (p.1 ∙ ap Err p.2) c.in_err-turn_files.ensures

pub returns-clause-follows : goal.returns-clause-follows
returns-clause-follows g c =
    turn_follows (directory (g.F.Files.state c.args.files.now)) (directory (g.F.Files.state c.turn_files.new.files)) c.args.zones.now c.turn.new.self c.args.kepts.now.items c.args.listed.now.items c.args.z.0 c.args.to
    c.args.name.now c.kind-kind.result c.info-info.result.held c.index_mut.result.now c.turn-2.new.self
    c.requires.device c.requires.within c.requires.zone c.requires.worse c.turn.ensures.facts c.requires.name c.kind-kind.ensures (ap (λ (info : ZoneInfo). info.held) c.info-info.ensures) c.index_mut.ensures.value
    (c.in_ok-turn_files.ensures.turned refl) c.turn-2.ensures.durable c.turn-2.ensures.unflushed c.turn-2.ensures.mark

pub returns-clause-touches : goal.returns-clause-touches
returns-clause-touches g c =
    turn_touches (turned (truth_seen (directory (g.F.Files.state c.args.files.now)) (facts c.args.zones.now) c.args.kepts.now.items) c.args.z.0 c.args.to) c.args.name.now (marker_name c.args.to c.kind-kind.result c.args.z.0)
    (Ok tt) (Ok tt) (g.F.Files.state c.args.files.now) (g.F.Files.state c.turn_files.new.files) refl c.in_ok-turn_files.ensures
