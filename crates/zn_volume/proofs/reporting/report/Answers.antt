use Rattle.zn_volume.proofs.Reports.{reports}
use Rattle.zn_volume.proofs.reporting.report.Goals as goal

pub returns : goal.returns
returns g c = rw c.told_alone.ensures (reports c.report_zones.result c.report_zones.new.infos _ _ c.report_zones.ensures.done c.report_zones.ensures.infos)
