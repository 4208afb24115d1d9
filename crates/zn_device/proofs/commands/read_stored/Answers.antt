use Rattle.std.proofs.Common.{◌+◌, ◌/◌, length, arith, refl, sym, ap, ◌∙◌}
use Rattle.std.proofs.lemmas.Result.{err_from_is_err_and}
use Rattle.zn_truth.specs.Orders.{ReadAt}
use Rattle.zn_zone.specs.Facts.{facts_at, info_of}
use Rattle.zn_zone.specs.Machine.{facts, refusal_in, dev_error}
use Rattle.zn_device.proofs.Places.{place, found, read_found}
use Rattle.zn_device.proofs.Stores.{zones-facts, refused_reply, done_reply, read_bytes}
use Rattle.zn_device.proofs.commands.read_stored.Goals as goal

pub overflow_cast-out : goal.overflow_cast-out
overflow_cast-out c = let p = place c.args.zones.now c.args.stores.now _ _ _ c.requires.device c.requires.fits in omega (arith, p.small)

pub overflow_add-at : goal.overflow_add-at
overflow_add-at c = let p = place c.args.zones.now c.args.stores.now _ _ _ c.requires.device c.requires.fits in omega (arith, p.small)

pub may_read-requires : goal.may_read-requires
may_read-requires c = (place c.args.zones.now c.args.stores.now _ _ _ c.requires.device c.requires.fits).zone

pub returns-in_err-may_read-clause-reply : goal.returns-in_err-may_read-clause-reply
returns-in_err-may_read-clause-reply c =
    let p = err_from_is_err_and c.from_residual.result c.from_residual.ensures.1 in
    rw (p.1, p.2) (sym (refused_reply (facts c.args.zones.now) c.args.stores.now (ReadAt c.args.z.0 c.args.at (length c.args.out.now / 4096)) (dev_error c.in_err-may_read.field-0.0) c.requires.device.stored.count (sym c.may_read.ensures ∙ ap refusal_in c.in_err-may_read.was)))

pub bounds-stores-z : goal.bounds-stores-z
bounds-stores-z c = (place c.args.zones.now c.args.stores.now _ _ _ c.requires.device c.requires.fits).store

pub read-requires : goal.read-requires
read-requires c =
    let known = found c.args.zones.now c.args.stores.now c.args.z.0 (facts_at (facts c.args.zones.now) c.args.z.0).kind (info_of (facts_at (facts c.args.zones.now) c.args.z.0)) c.index-stores-z.result c.requires.device (place c.args.zones.now c.args.stores.now _ _ _ c.requires.device c.requires.fits).zone c.index-stores-z.is refl refl in
    let held = read_found (facts c.args.zones.now) c.args.z.0 (c.args.at + length c.args.out.now / 4096) (sym c.may_read.ensures ∙ ap refusal_in c.in_ok-may_read.was) in
    omega (arith, known.sound.bytes, held, c.requires.whole.whole)

pub returns-clause-reply : goal.returns-clause-reply
returns-clause-reply c = sym (done_reply (facts c.args.zones.now) c.args.stores.now (ReadAt c.args.z.0 c.args.at (length c.args.out.now / 4096)) c.requires.device.stored.count (sym c.may_read.ensures ∙ ap refusal_in c.in_ok-may_read.was))

pub returns-clause-bytes : goal.returns-clause-bytes
returns-clause-bytes c = λ ok.
    let p = place c.args.zones.now c.args.stores.now _ _ _ c.requires.device c.requires.fits in
    read_bytes (facts c.args.zones.now) c.args.stores.now c.args.z.0 c.args.at (length c.args.out.now / 4096) c.index-stores-z.result c.read.new.out (length c.args.out.now) c.requires.device.stored.count
    (omega (arith, p.zone, zones-facts c.args.zones.now)) c.index-stores-z.is c.requires.whole.whole c.read.ensures
