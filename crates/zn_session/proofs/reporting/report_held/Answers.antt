use Rattle.std.proofs.Common.{◌≡◌, List, Some, length, drop, sym, ap, ◌∙◌, subst, arith}
use Rattle.std.proofs.lemmas.Grind.{common_steps}
use Rattle.std.proofs.lemmas.List.{take_at}
use Rattle.zn_truth.specs.declared.ZoneInfo.{ZoneInfo}
use Rattle.zn_session.specs.SessionState.{held_by, mounted_held}
use Rattle.zn_session.specs.Told.{ReportsOn}
use Rattle.zn_session.specs.declared.held.Held.TheVariants.{Mounted as OnVolume}
use Rattle.zn_session.proofs.HeldCases.{with_volume}
use Rattle.zn_session.proofs.ToldZones.{volume_reports}
use Rattle.zn_session.proofs.reporting.report_held.Goals as goal

pub returns-in-Some-Mounted-clause-reports : goal.returns-in-Some-Mounted-clause-reports
returns-in-Some-Mounted-clause-reports g c =
    let seen = c.in-Some-Mounted.volume in
    let after = c.report-in-Some-Mounted in
    let is : c.args.held.now ≡ Some (OnVolume seen) = c.in-Some-Mounted.is ∙ ap Some c.in-Some-Mounted.field-0-is in
    let n : length after.new.out ≡ c.args.infos.now.len = grind (arith, common_steps) in
    let out = take_at after.new.out (drop (length after.new.out) c.args.infos.now.items) c.args.infos.now.len n in
    subst (λ (infos : List ZoneInfo). ReportsOn after.result infos (held_by g.D.Zoned.state c.args.held.now) (mounted_held after.new.self)) (sym out)
    (with_volume g.D.Zoned.state c.args.held.now seen is (λ h. ReportsOn after.result after.new.out h (mounted_held after.new.self))
    (volume_reports after.result after.new.out seen after.new.self after.ensures.reply after.ensures.mounted after.ensures.infos after.ensures.io_error after.ensures.cause))
