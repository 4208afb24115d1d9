use Rattle.std.proofs.Common.{◌≡◌, ◌+◌, Ok, Err, ap, ◌∙◌, subst, sym, arith}
use Rattle.std.specs.Prelude.{Result}
use Rattle.std.proofs.lemmas.Result.{err_from_is_err_and}
use Rattle.zn_backing.specs.declared.error.CreateError.{CreateError}
use Rattle.zn_backing.specs.Making.{HasZonesBefore, MakesFiles}
use Rattle.zn_backing.proofs.Creating.{files_none, files_then, files_failed}
use Rattle.zn_backing.proofs.fresh.make_zones.Goals as goal

pub loop-z-init : goal.loop-z-init
loop-z-init g c = files_none c.args.geo.now (g.F.Files.state c.args.files.now) (HasZonesBefore c.args.geo.now 0) c.requires.none

pub make_zone-requires-clause-before : goal.make_zone-requires-clause-before
make_zone-requires-clause-before g c = c.loop-z.invariant.done

pub returns-in_err-make_zone : goal.returns-in_err-make_zone
returns-in_err-make_zone g c =
    let p = err_from_is_err_and c.from_residual.result c.from_residual.ensures.1 in
    subst (λ (r : Result (Unit {0}) CreateError). MakesFiles c.args.geo.now r (g.F.Files.state c.args.files.now) (g.F.Files.state c.make_zone.new.files) (HasZonesBefore c.args.geo.now c.args.geo.now.zones)) (sym (p.1 ∙ ap Err p.2))
    (files_failed c.args.geo.now _ (g.F.Files.state c.args.files.now) (g.F.Files.state c.make_zone.new.files) (HasZonesBefore c.args.geo.now (c.loop-z.z + 1)) (HasZonesBefore c.args.geo.now c.args.geo.now.zones)
    (files_then c.args.geo.now (Err _) (g.F.Files.state c.args.files.now) (g.F.Files.state c.loop-z.files) (g.F.Files.state c.make_zone.new.files) (HasZonesBefore c.args.geo.now c.loop-z.z) (HasZonesBefore c.args.geo.now (c.loop-z.z + 1)) c.loop-z.invariant c.in_err-make_zone.ensures))

pub loop-z-preserved : goal.loop-z-preserved
loop-z-preserved g c = files_then c.args.geo.now (Ok tt) (g.F.Files.state c.args.files.now) (g.F.Files.state c.loop-z.files) (g.F.Files.state c.make_zone.new.files) (HasZonesBefore c.args.geo.now c.loop-z.z) (HasZonesBefore c.args.geo.now (c.loop-z.z + 1)) c.loop-z.invariant c.in_ok-make_zone.ensures

pub returns : goal.returns
returns g c =
    let all : c.loop-z.z ≡ c.args.geo.now.zones = omega arith in
    subst (λ n. MakesFiles c.args.geo.now (Ok tt) (g.F.Files.state c.args.files.now) (g.F.Files.state c.loop-z.files) (HasZonesBefore c.args.geo.now n)) all c.loop-z.invariant
