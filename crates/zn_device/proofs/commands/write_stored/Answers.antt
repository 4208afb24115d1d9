use Rattle.std.proofs.Common.{arith, refl, sym, ap, ◌∙◌}
use Rattle.std.proofs.lemmas.Result.{err_from_is_err_and}
use Rattle.zn_truth.specs.Orders.{WriteAt}
use Rattle.zn_zone.specs.Facts.{outline, facts_at, info_of}
use Rattle.zn_zone.specs.Machine.{facts, refusal_in, dev_error}
use Rattle.zn_device.specs.Stores.{truth_of}
use Rattle.zn_device.proofs.Places.{place, found, kind_found, held_found, flags_found, stores_after}
use Rattle.zn_device.proofs.Stores.{zones-facts, refused_reply, refused_truth, done_reply, write_truth, write_found}
use Rattle.zn_device.proofs.commands.write_stored.Goals as goal

pub kind-kind-requires : goal.kind-kind-requires
kind-kind-requires c = (place c.args.zones.now c.args.stores.now.items _ _ _ c.requires.device c.requires.fits).zone

pub overflow_cast-bytes : goal.overflow_cast-bytes
overflow_cast-bytes c = let p = place c.args.zones.now c.args.stores.now.items _ _ _ c.requires.device c.requires.fits in omega (arith, p.small)

pub write-requires-clause-zone : goal.write-requires-clause-zone
write-requires-clause-zone c = (place c.args.zones.now c.args.stores.now.items _ _ _ c.requires.device c.requires.fits).zone

pub write-requires-clause-room : goal.write-requires-clause-room
write-requires-clause-room c = (place c.args.zones.now c.args.stores.now.items _ _ _ c.requires.device c.requires.fits).blocks

pub returns-in_err-write-clause-reply : goal.returns-in_err-write-clause-reply
returns-in_err-write-clause-reply c =
    let p = err_from_is_err_and c.from_residual.result c.from_residual.ensures.1 in
    rw (p.1, p.2) (sym (refused_reply (facts c.args.zones.now) c.args.stores.now.items (WriteAt c.args.z.0 c.args.at c.args.bytes.now) (dev_error c.in_err-write.field-0.0) c.requires.device.stored.count (sym c.write.ensures.refused ∙ ap refusal_in c.in_err-write.was)))

pub returns-in_err-write-clause-truth : goal.returns-in_err-write-clause-truth
returns-in_err-write-clause-truth c =
    ap (λ m. truth_of (facts m) c.args.stores.now.items) c.in_err-write.ensures.err
    ∙ sym (refused_truth (facts c.args.zones.now) c.args.stores.now.items (WriteAt c.args.z.0 c.args.at c.args.bytes.now) (dev_error c.in_err-write.field-0.0) c.requires.device.stored.count (sym c.write.ensures.refused ∙ ap refusal_in c.in_err-write.was))

pub index_mut-requires : goal.index_mut-requires
index_mut-requires c = let p = place c.args.zones.now c.args.stores.now.items _ _ _ c.requires.device c.requires.fits in omega (arith, p.store, c.args.stores.now.ok.0)

pub write-requires-2-clause-room : goal.write-requires-2-clause-room
write-requires-2-clause-room c = rw (c.shape-shape.ensures, c.kind-kind.ensures) (place c.args.zones.now c.args.stores.now.items _ _ _ c.requires.device c.requires.fits).blocks

pub write-requires-2-clause-held : goal.write-requires-2-clause-held
write-requires-2-clause-held c =
    let known = found c.args.zones.now c.args.stores.now.items c.args.z.0 c.kind-kind.result (info_of (facts_at (facts c.args.zones.now) c.args.z.0)) c.index_mut.result.now c.requires.device (place c.args.zones.now c.args.stores.now.items _ _ _ c.requires.device c.requires.fits).zone c.index_mut.ensures.value (kind_found c.args.zones.now c.args.z.0 c.kind-kind.result c.kind-kind.ensures) refl in
    let found = write_found (facts c.args.zones.now) c.args.z.0 c.args.at c.args.bytes.now (sym c.write.ensures.refused ∙ ap refusal_in c.in_ok-write.was) in
    let held = held_found c.args.zones.now.shape c.kind-kind.result (info_of (facts_at (facts c.args.zones.now) c.args.z.0)) c.index_mut.result.now c.args.at known.sound found.0 (λ is. found.1 (sym (kind_found c.args.zones.now c.args.z.0 c.kind-kind.result c.kind-kind.ensures) ∙ is)) in
    rw c.shape-shape.ensures (omega (arith, held, known.sound.bytes))

pub write-requires-2-clause-buffer : goal.write-requires-2-clause-buffer
write-requires-2-clause-buffer c =
    let known = found c.args.zones.now c.args.stores.now.items c.args.z.0 c.kind-kind.result (info_of (facts_at (facts c.args.zones.now) c.args.z.0)) c.index_mut.result.now c.requires.device (place c.args.zones.now c.args.stores.now.items _ _ _ c.requires.device c.requires.fits).zone c.index_mut.ensures.value (kind_found c.args.zones.now c.args.z.0 c.kind-kind.result c.kind-kind.ensures) refl in
    rw c.shape-shape.ensures known.buffer

pub write-requires-2-clause-flags : goal.write-requires-2-clause-flags
write-requires-2-clause-flags c = λ is.
    let known = found c.args.zones.now c.args.stores.now.items c.args.z.0 c.kind-kind.result (info_of (facts_at (facts c.args.zones.now) c.args.z.0)) c.index_mut.result.now c.requires.device (place c.args.zones.now c.args.stores.now.items _ _ _ c.requires.device c.requires.fits).zone c.index_mut.ensures.value (kind_found c.args.zones.now c.args.z.0 c.kind-kind.result c.kind-kind.ensures) refl in
    rw c.shape-shape.ensures (flags_found c.args.zones.now.shape c.kind-kind.result (info_of (facts_at (facts c.args.zones.now) c.args.z.0)) c.index_mut.result.now known.sound (write_found (facts c.args.zones.now) c.args.z.0 c.args.at c.args.bytes.now (sym c.write.ensures.refused ∙ ap refusal_in c.in_ok-write.was)).0 is)

pub returns-clause-reply : goal.returns-clause-reply
returns-clause-reply c = sym (done_reply (facts c.args.zones.now) c.args.stores.now.items (WriteAt c.args.z.0 c.args.at c.args.bytes.now) c.requires.device.stored.count (sym c.write.ensures.refused ∙ ap refusal_in c.in_ok-write.was))

pub returns-clause-truth : goal.returns-clause-truth
returns-clause-truth c =
    let p = place c.args.zones.now c.args.stores.now.items _ _ _ c.requires.device c.requires.fits in
    let known = found c.args.zones.now c.args.stores.now.items c.args.z.0 c.kind-kind.result (info_of (facts_at (facts c.args.zones.now) c.args.z.0)) c.index_mut.result.now c.requires.device (place c.args.zones.now c.args.stores.now.items _ _ _ c.requires.device c.requires.fits).zone c.index_mut.ensures.value (kind_found c.args.zones.now c.args.z.0 c.kind-kind.result c.kind-kind.ensures) refl in
    let found = write_found (facts c.args.zones.now) c.args.z.0 c.args.at c.args.bytes.now (sym c.write.ensures.refused ∙ ap refusal_in c.in_ok-write.was) in
    write_truth (facts c.args.zones.now) (facts c.write.new.self) c.args.stores.now.items c.args.z.0 c.args.at c.args.bytes.now c.kind-kind.result (info_of (facts_at (facts c.args.zones.now) c.args.z.0)) c.index_mut.result.now c.write-2.new.self
    c.write.ensures.facts c.requires.device.stored.count (omega (arith, p.zone, zones-facts c.args.zones.now)) c.index_mut.ensures.value (kind_found c.args.zones.now c.args.z.0 c.kind-kind.result c.kind-kind.ensures) refl (sym c.write.ensures.refused ∙ ap refusal_in c.in_ok-write.was)
    ((rw c.shape-shape.ensures at c.write-2.ensures.zone) (info_of (facts_at (facts c.args.zones.now) c.args.z.0))
    (held_found c.args.zones.now.shape c.kind-kind.result (info_of (facts_at (facts c.args.zones.now) c.args.z.0)) c.index_mut.result.now c.args.at known.sound found.0 (λ is. found.1 (sym (kind_found c.args.zones.now c.args.z.0 c.kind-kind.result c.kind-kind.ensures) ∙ is))))

pub returns-clause-stored : goal.returns-clause-stored
returns-clause-stored c =
    stores_after (facts c.args.zones.now) (facts c.write.new.self) (outline (WriteAt c.args.z.0 c.args.at c.args.bytes.now)) c.args.stores.now.items c.args.z.0 c.kind-kind.result c.write-2.new.self
    c.write.ensures.facts c.requires.device.stored (kind_found c.args.zones.now c.args.z.0 c.kind-kind.result c.kind-kind.ensures) (rw c.shape-shape.ensures at c.write-2.ensures.buffer)
