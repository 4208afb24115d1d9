use Rattle.std.proofs.Common.{List, ℕ, replicate, ap, ◌∙◌, refl, subst, sym}
use Rattle.std.specs.Prelude.{Result, Some, Err}
use Rattle.std.specs.Option.{option_map}
use Rattle.std.proofs.lemmas.Result.{err_from_is_err_and}
use Rattle.zn_stand.specs.File.{created}
use Rattle.zn_backing.specs.declared.error.CreateError.{CreateError}
use Rattle.zn_backing.specs.Making.{grown, rested_file, MakesFile}
use Rattle.zn_backing.proofs.Making.{makes_failed, makes_cut, made_there, grown_there, makes_zeros}
use Rattle.zn_backing.proofs.made.make_zeros.Goals as goal

pub returns-in_err-begin : goal.returns-in_err-begin
returns-in_err-begin g c =
    let p = err_from_is_err_and c.from_residual.result c.from_residual.ensures.1 in
    subst (λ (r : Result (Unit {0}) CreateError). MakesFile c.args.name.now (rested_file (replicate c.args.len 0)) r (g.F.Files.state c.args.files.now) (g.F.Files.state c.begin.new.files)) (sym (p.1 ∙ ap Err p.2))
    (makes_failed c.args.name.now (λ o. Some created) (rested_file (replicate c.args.len 0)) _ (g.F.Files.state c.args.files.now) (g.F.Files.state c.begin.new.files) c.in_err-begin.ensures)

pub grow-requires : goal.grow-requires
grow-requires g c = made_there c.args.name.now (λ o. Some created) (g.F.Files.state c.args.files.now) (g.F.Files.state c.begin.new.files) (λ o. refl) c.in_ok-begin.ensures

pub returns-in_err-grow : goal.returns-in_err-grow
returns-in_err-grow g c =
    let p = err_from_is_err_and c.from_residual-in_err-grow.result c.from_residual-in_err-grow.ensures.1 in
    subst (λ (r : Result (Unit {0}) CreateError). MakesFile c.args.name.now (rested_file (replicate c.args.len 0)) r (g.F.Files.state c.args.files.now) (g.F.Files.state c.grow.new.files)) (sym (p.1 ∙ ap Err p.2))
    (makes_cut c.args.name.now (λ o. Some created) (λ o. option_map (grown c.args.len) o) (rested_file (replicate c.args.len 0)) _ (g.F.Files.state c.args.files.now) (g.F.Files.state c.begin.new.files) (g.F.Files.state c.grow.new.files) c.in_ok-begin.ensures c.in_err-grow.ensures)

pub settle-requires : goal.settle-requires
settle-requires g c = grown_there c.args.name.now c.args.len (g.F.Files.state c.args.files.now) (g.F.Files.state c.begin.new.files) (g.F.Files.state c.grow.new.files) c.in_ok-begin.ensures c.in_ok-grow.ensures

pub returns : goal.returns
returns g c = makes_zeros c.args.name.now c.args.len c.settle.result (g.F.Files.state c.args.files.now) (g.F.Files.state c.begin.new.files) (g.F.Files.state c.grow.new.files) (g.F.Files.state c.settle.new.files) c.in_ok-begin.ensures c.in_ok-grow.ensures c.settle.ensures
