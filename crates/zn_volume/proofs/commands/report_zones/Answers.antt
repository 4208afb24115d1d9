use Rattle.std.proofs.Common.{◌≡◌, ℕ, length, map, ap, ◌∙◌, subst}
use Rattle.std.specs.List.{range_with_len}
use Rattle.zn_truth.specs.Orders.{ReportFrom}
use Rattle.zn_truth.specs.Truth.{info_at}
use Rattle.zn_device.specs.States.{Commanded}
use Rattle.zn_truth.proofs.Issuing.{kinds-length}
use Rattle.zn_volume.proofs.commands.report_zones.Goals as goal

pub returns-clause-done : goal.returns-clause-done
returns-clause-done g c =
    let zones : length c.args.infos.now ≡ length (g.D.Zoned.state c.args.dev.now).world.truth.zones =
    c.requires.places ∙ kinds-length (g.D.Zoned.state c.args.dev.now).world in
    subst (λ (n : ℕ). Commanded (ReportFrom 0 n) c.report.result (g.D.Zoned.state c.args.dev.now) (g.D.Zoned.state c.report.new.self)) zones c.report.ensures.done

pub returns-clause-infos : goal.returns-clause-infos
returns-clause-infos g c = λ ok.
    let zones : length c.args.infos.now ≡ length (g.D.Zoned.state c.args.dev.now).world.truth.zones =
    c.requires.places ∙ kinds-length (g.D.Zoned.state c.args.dev.now).world in
    c.report.ensures.infos ok ∙ ap (λ (k : ℕ). map (info_at (g.D.Zoned.state c.args.dev.now).world.truth) (range_with_len 0 k)) zones
