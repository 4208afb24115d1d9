use Rattle.std.proofs.Common.{sym, ◌∙◌}
use Rattle.std.specs.Option.{option_copied}
use Rattle.zn_session.proofs.MountLines.{bad_options, mounted, unmounted}
use Rattle.zn_session.proofs.held.mount_bare.Goals as goal

pub returns-in-Err : goal.returns-in-Err
returns-in-Err g c = λ kept entropy numbers none.
    bad_options (option_copied c.args.text) kept entropy numbers _ c.in-Err.error none c.requires.unspoilt (sym c.options_in.ensures ∙ c.in-Err.is)

pub returns-in-Ok-mount : goal.returns-in-Ok-mount
returns-in-Ok-mount g c = λ kept entropy numbers none.
    mounted (option_copied c.args.text) kept entropy numbers _ c.in-Ok.opts none c.requires.unspoilt (sym c.options_in.ensures ∙ c.in-Ok.is) c.in-Ok-mount.volume c.in-Ok-mount.ensures.ok

pub returns-in-Err-mount : goal.returns-in-Err-mount
returns-in-Err-mount g c = λ kept entropy numbers none.
    unmounted (option_copied c.args.text) kept entropy numbers _ c.in-Ok.opts none c.requires.unspoilt (sym c.options_in.ensures ∙ c.in-Ok.is) c.in-Err-mount.fail.why _ c.in-Err-mount.ensures.failed
