use Rattle.std.proofs.Common.{◌∙◌, ℕ, Ok, ap, arith}
use Rattle.std.specs.Option.{unwrap_or}
use Rattle.std.proofs.lemmas.Result.{err_from_is_err_and}
use Rattle.zn_model.specs.declared.files.FormatOpts.{FormatOpts}
use Rattle.zn_opts.proofs.ItemLists.{format_read}
use Rattle.zn_opts.proofs.Permissions.{format_small}
use Rattle.zn_opts.proofs.format.format_opts.Goals as goal

pub returns-in_err-given-clause-value : goal.returns-in_err-given-clause-value
returns-in_err-given-clause-value c =
    let ends = err_from_is_err_and c.from_residual.result c.from_residual.ensures.1 in
    rw (ends.1, ends.2) (format_read c.args.text.now _ c.in_err-given.ensures)

pub returns-clause-value : goal.returns-clause-value
returns-clause-value c =
    let given = c.in_ok-given.given in
    let opts : ℕ → ℕ → ℕ → FormatOpts = λ uid gid perm. record { aggr_cnv = given.aggr_cnv; uid = uid; gid = gid; perm = perm } in
    ap (λ uid. Ok (opts uid c.unwrap_or-2.result c.unwrap_or-3.result)) c.unwrap_or.ensures
    ∙ ap (λ gid. Ok (opts (unwrap_or given.uid 0) gid c.unwrap_or-3.result)) c.unwrap_or-2.ensures
    ∙ ap (λ perm. Ok (opts (unwrap_or given.uid 0) (unwrap_or given.gid 0) perm)) c.unwrap_or-3.ensures
    ∙ format_read c.args.text.now _ c.in_ok-given.ensures

pub returns-clause-small : goal.returns-clause-small
returns-clause-small c = omega (arith, c.unwrap_or-3.ensures, format_small c.args.text.now c.in_ok-given.given c.in_ok-given.ensures)
