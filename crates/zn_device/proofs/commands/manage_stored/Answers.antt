use Rattle.std.proofs.Common.{arith, refl, sym, ap, ◌∙◌}
use Rattle.std.proofs.lemmas.Result.{err_from_is_err_and}
use Rattle.zn_truth.specs.declared.Kind.TheVariants.{Sequential}
use Rattle.zn_truth.specs.Orders.{Manage}
use Rattle.zn_zone.specs.Facts.{facts_at, info_of}
use Rattle.zn_zone.specs.Machine.{facts, refusal_in, dev_error}
use Rattle.zn_device.specs.Stores.{truth_of}
use Rattle.zn_device.proofs.Places.{managed_place, found, kind_found, stores_after}
use Rattle.zn_device.proofs.Stores.{zones-facts, refused_reply, refused_truth, done_reply, manage_truth}
use Rattle.zn_device.proofs.commands.manage_stored.Goals as goal

pub manage-requires-clause-zone : goal.manage-requires-clause-zone
manage-requires-clause-zone c = (managed_place c.args.zones.now c.args.stores.now.items _ c.requires.device c.requires.zone).zone

pub manage-requires-clause-kind : goal.manage-requires-clause-kind
manage-requires-clause-kind c = (managed_place c.args.zones.now c.args.stores.now.items _ c.requires.device c.requires.zone).kind

pub returns-in_err-manage-clause-reply : goal.returns-in_err-manage-clause-reply
returns-in_err-manage-clause-reply c =
    let p = err_from_is_err_and c.from_residual.result c.from_residual.ensures.1 in
    rw (p.1, p.2) (sym (refused_reply (facts c.args.zones.now) c.args.stores.now.items (Manage c.args.z.0 c.args.op) (dev_error c.in_err-manage.field-0.0) c.requires.device.stored.count (sym c.manage.ensures.refused ∙ ap refusal_in c.in_err-manage.was)))

pub returns-in_err-manage-clause-truth : goal.returns-in_err-manage-clause-truth
returns-in_err-manage-clause-truth c =
    ap (λ m. truth_of (facts m) c.args.stores.now.items) c.in_err-manage.ensures.err
    ∙ sym (refused_truth (facts c.args.zones.now) c.args.stores.now.items (Manage c.args.z.0 c.args.op) (dev_error c.in_err-manage.field-0.0) c.requires.device.stored.count (sym c.manage.ensures.refused ∙ ap refusal_in c.in_err-manage.was))

pub index_mut-requires : goal.index_mut-requires
index_mut-requires c = let p = managed_place c.args.zones.now c.args.stores.now.items _ c.requires.device c.requires.zone in omega (arith, p.store, c.args.stores.now.ok.0)

pub manage-requires-2 : goal.manage-requires-2
manage-requires-2 c =
    let p = managed_place c.args.zones.now c.args.stores.now.items _ c.requires.device c.requires.zone in
    rw c.shape-shape.ensures (record {
      buffer = (found c.args.zones.now c.args.stores.now.items c.args.z.0 Sequential (info_of (facts_at (facts c.args.zones.now) c.args.z.0)) c.index_mut.result.now c.requires.device p.zone c.index_mut.ensures.value
          (kind_found c.args.zones.now c.args.z.0 Sequential (sym p.kind)) refl).buffer;
    })

pub returns-clause-reply : goal.returns-clause-reply
returns-clause-reply c = sym (done_reply (facts c.args.zones.now) c.args.stores.now.items (Manage c.args.z.0 c.args.op) c.requires.device.stored.count (sym c.manage.ensures.refused ∙ ap refusal_in c.in_ok-manage.was))

pub returns-clause-truth : goal.returns-clause-truth
returns-clause-truth c =
    let p = managed_place c.args.zones.now c.args.stores.now.items _ c.requires.device c.requires.zone in
    let info = info_of (facts_at (facts c.args.zones.now) c.args.z.0) in
    let known = found c.args.zones.now c.args.stores.now.items c.args.z.0 Sequential info c.index_mut.result.now c.requires.device p.zone c.index_mut.ensures.value (kind_found c.args.zones.now c.args.z.0 Sequential (sym p.kind)) refl in
    manage_truth (facts c.args.zones.now) (facts c.manage.new.self) c.args.stores.now.items c.args.z.0 c.args.op info c.index_mut.result.now c.manage-2.new.self
    c.manage.ensures.facts c.requires.device.stored.count (omega (arith, p.zone, zones-facts c.args.zones.now)) c.index_mut.ensures.value (kind_found c.args.zones.now c.args.z.0 Sequential (sym p.kind)) refl
    (sym c.manage.ensures.refused ∙ ap refusal_in c.in_ok-manage.was) ((rw c.shape-shape.ensures at c.manage-2.ensures.zone) info known.sound.held known.sound.bytes)

pub returns-clause-stored : goal.returns-clause-stored
returns-clause-stored c =
    stores_after (facts c.args.zones.now) (facts c.manage.new.self) (Manage c.args.z.0 c.args.op) c.args.stores.now.items c.args.z.0 Sequential c.manage-2.new.self
    c.manage.ensures.facts c.requires.device.stored (kind_found c.args.zones.now c.args.z.0 Sequential (sym (managed_place c.args.zones.now c.args.stores.now.items _ c.requires.device c.requires.zone).kind)) (rw c.shape-shape.ensures at c.manage-2.ensures.buffer)
