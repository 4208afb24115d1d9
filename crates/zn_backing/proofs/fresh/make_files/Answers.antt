use Rattle.std.proofs.Common.{Err, ap, ◌∙◌, subst, sym}
use Rattle.std.specs.Prelude.{Result}
use Rattle.std.proofs.lemmas.Result.{err_from_is_err_and}
use Rattle.zn_backing.specs.declared.error.CreateError.{CreateError}
use Rattle.zn_backing.specs.Making.{HasZonesBefore, MakesFiles}
use Rattle.zn_backing.specs.Creating.{IsNew}
use Rattle.zn_backing.proofs.Creating.{files_then, files_failed}
use Rattle.zn_backing.proofs.fresh.make_files.Goals as goal

pub returns-in_err-make_zones : goal.returns-in_err-make_zones
returns-in_err-make_zones g c =
    let p = err_from_is_err_and c.from_residual.result c.from_residual.ensures.1 in
    subst (λ (r : Result (Unit {0}) CreateError). MakesFiles c.args.geo.now r (g.F.Files.state c.args.files.now) (g.F.Files.state c.make_zones.new.files) (IsNew c.args.geo.now)) (sym (p.1 ∙ ap Err p.2))
    (files_failed c.args.geo.now _ (g.F.Files.state c.args.files.now) (g.F.Files.state c.make_zones.new.files) (HasZonesBefore c.args.geo.now c.args.geo.now.zones) (IsNew c.args.geo.now) c.in_err-make_zones.ensures)

pub make_device-requires-clause-zones : goal.make_device-requires-clause-zones
make_device-requires-clause-zones g c = c.in_ok-make_zones.ensures.done

pub returns : goal.returns
returns g c = files_then c.args.geo.now c.make_device.result (g.F.Files.state c.args.files.now) (g.F.Files.state c.make_zones.new.files) (g.F.Files.state c.make_device.new.files) (HasZonesBefore c.args.geo.now c.args.geo.now.zones) (IsNew c.args.geo.now) c.in_ok-make_zones.ensures c.make_device.ensures
