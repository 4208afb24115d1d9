use Rattle.std.proofs.Common.{◌≡◌, Err, Ok, refl, subst, sym, ap, ◌∙◌}
use Rattle.std.specs.Option.{option_map}
use Rattle.std.proofs.lemmas.Result.{err_from_is_err_and}
use Rattle.zn_truth.specs.Orders.{Manage, done}
use Rattle.zn_truth.specs.declared.Shape.{Shape}
use Rattle.zn_zone.specs.Facts.{facts_at}
use Rattle.zn_zone.specs.Machine.{facts, state_at, refusal_in, dev_error}
use Rattle.zn_files.specs.States.{directory}
use Rattle.zn_stand.specs.Maps.{Name}
use Rattle.zn_zloop.specs.Managed.{managed_file, managed_durable}
use Rattle.zn_stand.specs.ZoneNames.{zone_name}
use Rattle.zn_truth.specs.declared.ZoneInfo.{ZoneInfo}
use Rattle.zn_zloop.specs.Seen.{truth_seen}
use Rattle.zn_zloop.specs.Served.{IsThere, ChangedWhereTold}
use Rattle.zn_zloop.proofs.Sight.{done_reply}
use Rattle.zn_zloop.proofs.Putting.{found, refused_as, failed_touches, served_touches}
use Rattle.zn_zloop.proofs.Managing.{manage_follows}
use Rattle.zn_zloop.proofs.commands.manage_zone.Goals as goal

pub returns-in_err-manage-clause-follows : goal.returns-in_err-manage-clause-follows
returns-in_err-manage-clause-follows g c =
    let p = err_from_is_err_and c.from_residual.result c.from_residual.ensures.1 in
    refused_as (directory (g.F.Files.state c.args.files.now)) (facts c.args.zones.now) (facts c.manage.new.self) c.args.kepts.now.items c.args.listed.now.items (Manage c.args.z.0 c.args.op) (dev_error c.in_err-manage.field-0.0) c.from_residual.result (p.1 ∙ ap Err p.2) c.requires.device (ap facts c.in_err-manage.ensures.err)
    (sym c.manage.ensures.refused ∙ ap refusal_in c.in_err-manage.was)

pub manage_file-requires-clause-there : goal.manage_file-requires-clause-there
manage_file-requires-clause-there g c = subst (IsThere (g.F.Files.state c.args.files.now)) (sym c.requires.name) (found (directory (g.F.Files.state c.args.files.now)) c.args.zones.now c.args.kepts.now.items c.args.listed.now.items c.args.z.0 c.requires.device c.requires.within c.requires.zone.zone).there

pub returns-in_err-manage_file-clause-touches : goal.returns-in_err-manage_file-clause-touches
returns-in_err-manage_file-clause-touches g c =
    let p = err_from_is_err_and c.from_residual-in_err-manage_file.result c.from_residual-in_err-manage_file.ensures.1 in
    failed_touches (done (truth_seen (directory (g.F.Files.state c.args.files.now)) (facts c.args.zones.now) c.args.kepts.now.items) (Manage c.args.z.0 c.args.op)) c.args.name.now
    (λ a b. b ≡ option_map (managed_file c.args.op c.shape-shape.result.zone_capacity c.info-info.result.held) a)
    c.in_err-manage_file.field-0.0 c.from_residual-in_err-manage_file.result (g.F.Files.state c.args.files.now) (g.F.Files.state c.manage_file.new.files) (p.1 ∙ ap Err p.2)
    (done_reply (directory (g.F.Files.state c.args.files.now)) (facts c.args.zones.now) c.args.kepts.now.items (Manage c.args.z.0 c.args.op) c.requires.device.kept.count (sym c.manage.ensures.refused ∙ ap refusal_in c.in_ok-manage.was))
    c.in_err-manage_file.ensures.served

pub returns-clause-follows : goal.returns-clause-follows
returns-clause-follows g c =
    let o = directory (g.F.Files.state c.args.files.now) in
    let e = directory (g.F.Files.state c.manage_file.new.files) in
    let m = c.args.zones.now in
    let z = c.args.z.0 in
    let changed : ChangedWhereTold c.args.name.now (λ a b. b ≡ option_map (managed_file c.args.op c.shape-shape.result.zone_capacity c.info-info.result.held) a) o e = c.in_ok-manage_file.ensures.served.changed refl in
    let named : ChangedWhereTold (zone_name (state_at m z).kind z) (λ a b. b ≡ option_map (managed_file c.args.op c.shape-shape.result.zone_capacity c.info-info.result.held) a) o e =
    subst (λ (name : Name). ChangedWhereTold name (λ a b. b ≡ option_map (managed_file c.args.op c.shape-shape.result.zone_capacity c.info-info.result.held) a) o e) c.requires.name changed in
    let shaped : ChangedWhereTold (zone_name (state_at m z).kind z) (λ a b. b ≡ option_map (managed_file c.args.op m.shape.zone_capacity c.info-info.result.held) a) o e =
    subst (λ (shape : Shape). ChangedWhereTold (zone_name (state_at m z).kind z) (λ a b. b ≡ option_map (managed_file c.args.op shape.zone_capacity c.info-info.result.held) a) o e) c.shape-shape.ensures named in
    let held : ChangedWhereTold (zone_name (state_at m z).kind z) (λ a b. b ≡ option_map (managed_file c.args.op m.shape.zone_capacity (facts_at (facts m) z).held) a) o e =
    subst (λ (info : ZoneInfo). ChangedWhereTold (zone_name (state_at m z).kind z) (λ a b. b ≡ option_map (managed_file c.args.op m.shape.zone_capacity info.held) a) o e) c.info-info.ensures shaped in
    let durable : c.manage-2.new.self.durable ≡ managed_durable c.args.op m.shape.zone_capacity c.index_mut.result.now.durable =
    c.manage-2.ensures.durable ∙ ap (λ (shape : Shape). managed_durable c.args.op shape.zone_capacity c.index_mut.result.now.durable) c.shape-shape.ensures in
    manage_follows o e m c.manage.new.self c.args.kepts.now.items c.args.listed.now.items z c.args.op c.index_mut.result.now c.manage-2.new.self
    c.requires.device c.requires.within c.requires.zone (sym c.manage.ensures.refused ∙ ap refusal_in c.in_ok-manage.was) c.manage.ensures.facts c.index_mut.ensures.value
    held durable c.manage-2.ensures.unflushed c.manage-2.ensures.mark

pub returns-clause-touches : goal.returns-clause-touches
returns-clause-touches g c =
    served_touches (done (truth_seen (directory (g.F.Files.state c.args.files.now)) (facts c.args.zones.now) c.args.kepts.now.items) (Manage c.args.z.0 c.args.op)) c.args.name.now
    (λ a b. b ≡ option_map (managed_file c.args.op c.shape-shape.result.zone_capacity c.info-info.result.held) a)
    (Ok tt) (g.F.Files.state c.args.files.now) (g.F.Files.state c.manage_file.new.files)
    (done_reply (directory (g.F.Files.state c.args.files.now)) (facts c.args.zones.now) c.args.kepts.now.items (Manage c.args.z.0 c.args.op) c.requires.device.kept.count (sym c.manage.ensures.refused ∙ ap refusal_in c.in_ok-manage.was))
    c.in_ok-manage_file.ensures.served
