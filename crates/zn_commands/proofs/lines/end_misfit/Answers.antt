use Rattle.std.proofs.Common.{ℕ, List, ◌++◌, ap, ◌∙◌, subst}
use Rattle.std.specs.Prelude.{codes}
use Rattle.std.specs.Fmt.{decimal}
use Rattle.zn_run.specs.Headline.{Closed}
use Rattle.zn_run.specs.declared.status.Status.TheVariants.{Directory}
use Rattle.zn_stand.specs.ZoneNames.{zone_name}
use Rattle.zn_commands.proofs.LineLaws.{misfit_line}
use Rattle.zn_commands.proofs.lines.end_misfit.Goals as goal

pub returns : goal.returns
returns g c =
    let name = c.as_bytes-name.ensures.value ∙ c.zone_name.ensures in
    let len = decimal c.args.len in
    subst (λ (l : List ℕ). Closed c.end_by.result Directory l (g.K.Sink.state c.args.sink.now) (g.K.Sink.state c.end_by.new.sink))
    (ap (λ (n : List ℕ). codes "error bad-zone-file " ++ (n ++ (codes " " ++ (len ++ codes "\n")))) name ∙ misfit_line (zone_name c.args.kind c.args.z.0) len)
    c.end_by.ensures
