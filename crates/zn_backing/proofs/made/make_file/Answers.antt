use Rattle.std.proofs.Common.{List, ℕ, replicate, ap, ◌∙◌, refl, subst, sym}
use Rattle.std.specs.Prelude.{Result, Some, Err}
use Rattle.std.specs.Option.{option_map}
use Rattle.std.proofs.lemmas.Result.{err_from_is_err_and}
use Rattle.zn_stand.specs.File.{created, written}
use Rattle.zn_backing.specs.declared.error.CreateError.{CreateError}
use Rattle.zn_backing.specs.Making.{rested_file, MakesFile}
use Rattle.zn_backing.proofs.Making.{makes_failed, makes_cut, made_there, filled_there, makes_bytes}
use Rattle.zn_backing.proofs.made.make_file.Goals as goal

pub returns-in_err-begin : goal.returns-in_err-begin
returns-in_err-begin g c =
    let p = err_from_is_err_and c.from_residual.result c.from_residual.ensures.1 in
    subst (λ (r : Result (Unit {0}) CreateError). MakesFile c.args.name.now (rested_file c.args.bytes.now) r (g.F.Files.state c.args.files.now) (g.F.Files.state c.begin.new.files)) (sym (p.1 ∙ ap Err p.2))
    (makes_failed c.args.name.now (λ o. Some created) (rested_file c.args.bytes.now) _ (g.F.Files.state c.args.files.now) (g.F.Files.state c.begin.new.files) c.in_err-begin.ensures)

pub fill-requires : goal.fill-requires
fill-requires g c = made_there c.args.name.now (λ o. Some created) (g.F.Files.state c.args.files.now) (g.F.Files.state c.begin.new.files) (λ o. refl) c.in_ok-begin.ensures

pub returns-in_err-fill : goal.returns-in_err-fill
returns-in_err-fill g c =
    let p = err_from_is_err_and c.from_residual-in_err-fill.result c.from_residual-in_err-fill.ensures.1 in
    subst (λ (r : Result (Unit {0}) CreateError). MakesFile c.args.name.now (rested_file c.args.bytes.now) r (g.F.Files.state c.args.files.now) (g.F.Files.state c.fill.new.files)) (sym (p.1 ∙ ap Err p.2))
    (makes_cut c.args.name.now (λ o. Some created) (λ o. option_map (λ f. written f 0 c.args.bytes.now) o) (rested_file c.args.bytes.now) _ (g.F.Files.state c.args.files.now) (g.F.Files.state c.begin.new.files) (g.F.Files.state c.fill.new.files) c.in_ok-begin.ensures c.in_err-fill.ensures)

pub settle-requires : goal.settle-requires
settle-requires g c = filled_there c.args.name.now c.args.bytes.now (g.F.Files.state c.args.files.now) (g.F.Files.state c.begin.new.files) (g.F.Files.state c.fill.new.files) c.in_ok-begin.ensures c.in_ok-fill.ensures

pub returns : goal.returns
returns g c = makes_bytes c.args.name.now c.args.bytes.now c.settle.result (g.F.Files.state c.args.files.now) (g.F.Files.state c.begin.new.files) (g.F.Files.state c.fill.new.files) (g.F.Files.state c.settle.new.files) c.in_ok-begin.ensures c.in_ok-fill.ensures c.settle.ensures
