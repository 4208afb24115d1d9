use Rattle.std.proofs.Common.{◌*◌, ◌/◌, length, Err, refl, sym, ap, ◌∙◌, subst}
use Rattle.std.proofs.lemmas.Result.{err_from_is_err_and}
use Rattle.zn_truth.specs.Orders.{ReadAt, done}
use Rattle.zn_truth.proofs.Issuing.{read-truth}
use Rattle.zn_zone.specs.Machine.{facts, refusal_in, dev_error}
use Rattle.zn_files.specs.States.{directory}
use Rattle.zn_zloop.specs.Seen.{truth_seen}
use Rattle.zn_zloop.specs.Served.{IsThere}
use Rattle.zn_zloop.proofs.Sight.{done_reply}
use Rattle.zn_zloop.proofs.Putting.{found, refused_as}
use Rattle.zn_zloop.proofs.Looking.{looked_follows, looked_touches, read_within, read_bytes}
use Rattle.zn_zloop.proofs.reading.read_zone.Goals as goal

pub returns-in_err-may_read-clause-follows : goal.returns-in_err-may_read-clause-follows
returns-in_err-may_read-clause-follows g c =
    let p = err_from_is_err_and c.from_residual.result c.from_residual.ensures.1 in
    refused_as (directory (g.F.Files.state c.args.files.now)) (facts c.args.zones.now) (facts c.args.zones.now) c.args.kepts.now.items c.args.listed.now.items (ReadAt c.args.z.0 c.args.at (length c.args.out.now / 4096)) (dev_error c.in_err-may_read.field-0.0) c.from_residual.result (p.1 ∙ ap Err p.2) c.requires.device refl
    (sym c.may_read.ensures ∙ ap refusal_in c.in_err-may_read.was)

pub read-requires-clause-there : goal.read-requires-clause-there
read-requires-clause-there g c = subst (IsThere (g.F.Files.state c.args.files.now)) (sym c.requires.name) (found (directory (g.F.Files.state c.args.files.now)) c.args.zones.now c.args.kepts.now.items c.args.listed.now.items c.args.z.0 c.requires.device c.requires.within c.requires.fits.zone).there

pub read-requires-clause-within : goal.read-requires-clause-within
read-requires-clause-within g c =
    read_within (directory (g.F.Files.state c.args.files.now)) c.args.zones.now c.args.kepts.now.items c.args.listed.now.items c.args.z.0 c.args.at (length c.args.out.now / 4096) (length c.args.out.now) (4096 * c.args.at) c.args.name.now c.requires.device c.requires.within c.requires.fits.zone (sym c.may_read.ensures ∙ ap refusal_in c.in_ok-may_read.was) c.requires.name c.requires.whole.whole refl

pub returns-clause-follows : goal.returns-clause-follows
returns-clause-follows g c =
    looked_follows (directory (g.F.Files.state c.args.files.now)) (directory (g.F.Files.state c.read.new.files)) (facts c.args.zones.now) c.args.kepts.now.items c.args.listed.now.items (ReadAt c.args.z.0 c.args.at (length c.args.out.now / 4096)) c.read.result c.requires.device (sym c.may_read.ensures ∙ ap refusal_in c.in_ok-may_read.was)
    (read-truth (truth_seen (directory (g.F.Files.state c.args.files.now)) (facts c.args.zones.now) c.args.kepts.now.items) c.args.z.0 c.args.at (length c.args.out.now / 4096)) c.read.ensures.looked.done c.read.ensures.looked.same

pub returns-clause-touches : goal.returns-clause-touches
returns-clause-touches g c =
    looked_touches (done (truth_seen (directory (g.F.Files.state c.args.files.now)) (facts c.args.zones.now) c.args.kepts.now.items) (ReadAt c.args.z.0 c.args.at (length c.args.out.now / 4096))) c.read.result (g.F.Files.state c.args.files.now) (g.F.Files.state c.read.new.files)
    (done_reply (directory (g.F.Files.state c.args.files.now)) (facts c.args.zones.now) c.args.kepts.now.items (ReadAt c.args.z.0 c.args.at (length c.args.out.now / 4096)) c.requires.device.kept.count (sym c.may_read.ensures ∙ ap refusal_in c.in_ok-may_read.was)) c.read.ensures.looked

pub returns-clause-bytes : goal.returns-clause-bytes
returns-clause-bytes g c = λ ok told.
    read_bytes (g.F.Files.state c.args.files.now) c.args.zones.now c.args.kepts.now.items c.args.listed.now.items c.args.z.0 c.args.at (length c.args.out.now / 4096) (length c.args.out.now) (4096 * c.args.at) c.args.name.now c.read.new.out
    c.requires.device c.requires.within c.requires.fits.zone (sym c.may_read.ensures ∙ ap refusal_in c.in_ok-may_read.was) c.requires.name c.requires.whole.whole refl (λ d x is there. c.read.ensures.bytes d x is there ok) told
