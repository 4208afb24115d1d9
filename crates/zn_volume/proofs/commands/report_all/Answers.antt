use Rattle.std.proofs.Common.{◌≡◌, length, drop, ◌∙◌}
use Rattle.std.proofs.lemmas.Grind.{common_steps}
use Rattle.std.proofs.Common.{arith}
use Rattle.std.proofs.lemmas.List.{take_at}
use Rattle.zn_volume.proofs.commands.report_all.Goals as goal

pub returns-clause-infos : goal.returns-clause-infos
returns-clause-infos g c = λ ok.
    let n : length c.report_zones.new.infos ≡ c.args.infos.now.len = grind (arith, common_steps) in
    take_at c.report_zones.new.infos (drop (length c.report_zones.new.infos) c.args.infos.now.items) c.args.infos.now.len n
    ∙ c.report_zones.ensures.infos ok
