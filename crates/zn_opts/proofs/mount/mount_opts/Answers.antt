use Rattle.std.proofs.Common.{◌∙◌, Ok, ap}
use Rattle.std.proofs.lemmas.Result.{err_from_is_err_and}
use Rattle.zn_model.specs.declared.files.MountOpts.{MountOpts}
use Rattle.zn_opts.proofs.ItemLists.{mount_read}
use Rattle.zn_opts.proofs.mount.mount_opts.Goals as goal

pub returns-in_err-given : goal.returns-in_err-given
returns-in_err-given c =
    let ends = err_from_is_err_and c.from_residual.result c.from_residual.ensures.1 in
    rw (ends.1, ends.2) (mount_read c.args.text.now _ c.in_err-given.ensures)

pub returns : goal.returns
returns c =
    ap (λ policy. let opts : MountOpts = record { policy = policy; explicit_open = c.in_ok-given.given.explicit_open } in Ok opts) c.unwrap_or.ensures
    ∙ mount_read c.args.text.now _ c.in_ok-given.ensures
