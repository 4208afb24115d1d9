use Rattle.std.proofs.Common.{◌≡◌, true, Err, ap, ◌∙◌, subst, sym}
use Rattle.std.specs.Prelude.{Result}
use Rattle.std.proofs.lemmas.Result.{err_from_is_err_and}
use Rattle.zn_stand.specs.DeviceText.{is_within}
use Rattle.zn_backing.specs.declared.error.CreateError.{CreateError}
use Rattle.zn_backing.specs.declared.error.CreateError.TheVariants.{Memory}
use Rattle.zn_backing.specs.Creating.{IsNew, Creates}
use Rattle.zn_backing.proofs.Creating.{files_unwritten, empty_then, creates_limited, creates_refused, creates_made}
use Rattle.zn_backing.proofs.fresh.create.Goals as goal

pub returns-then-not-is_within : goal.returns-then-not-is_within
returns-then-not-is_within g c = creates_limited c.args.geo.now (g.F.Files.state c.args.files.now) (sym c.is_within.ensures ∙ c.if-not-is_within.true)

pub returns-in_err-refuse_names : goal.returns-in_err-refuse_names
returns-in_err-refuse_names g c =
    let p = err_from_is_err_and c.from_residual.result c.from_residual.ensures.1 in
    let within : is_within c.args.geo.now ≡ true = sym c.is_within.ensures ∙ c.if-not-is_within.false in
    subst (λ (r : Result (Unit {0}) CreateError). Creates c.args.geo.now r (g.F.Files.state c.args.files.now) (g.F.Files.state c.refuse_names.new.files)) (sym (p.1 ∙ ap Err p.2))
    (creates_refused c.args.geo.now _ (g.F.Files.state c.args.files.now) (g.F.Files.state c.refuse_names.new.files) within c.in_err-refuse_names.ensures)

pub returns-in_err-text : goal.returns-in_err-text
returns-in_err-text g c =
    let p = err_from_is_err_and c.from_residual-in_err-text.result c.from_residual-in_err-text.ensures.1 in
    let within : is_within c.args.geo.now ≡ true = sym c.is_within.ensures ∙ c.if-not-is_within.false in
    subst (λ (r : Result (Unit {0}) CreateError). Creates c.args.geo.now r (g.F.Files.state c.args.files.now) (g.F.Files.state c.refuse_names.new.files)) (sym (p.1 ∙ ap Err p.2))
    (creates_made c.args.geo.now (Err Memory) (g.F.Files.state c.args.files.now) (g.F.Files.state c.refuse_names.new.files) (g.F.Files.state c.refuse_names.new.files) within c.in_ok-refuse_names.ensures
    (files_unwritten c.args.geo.now (g.F.Files.state c.refuse_names.new.files) (IsNew c.args.geo.now)))

pub make_files-requires-clause-within : goal.make_files-requires-clause-within
make_files-requires-clause-within g c = sym c.is_within.ensures ∙ c.if-not-is_within.false

pub make_files-requires-clause-text : goal.make_files-requires-clause-text
make_files-requires-clause-text g c = c.deref.ensures.value ∙ c.in_ok-text.ensures

pub make_files-requires-clause-none : goal.make_files-requires-clause-none
make_files-requires-clause-none g c = empty_then c.args.geo.now (g.F.Files.state c.args.files.now) (g.F.Files.state c.refuse_names.new.files) c.in_ok-refuse_names.ensures

pub returns : goal.returns
returns g c =
    let within : is_within c.args.geo.now ≡ true = sym c.is_within.ensures ∙ c.if-not-is_within.false in
    creates_made c.args.geo.now c.make_files.result (g.F.Files.state c.args.files.now) (g.F.Files.state c.refuse_names.new.files) (g.F.Files.state c.make_files.new.files) within c.in_ok-refuse_names.ensures c.make_files.ensures
