use Rattle.zn_report.proofs.LayoutLaws.{layout_is}
use Rattle.zn_report.proofs.laws.layouts_are_of_zones.Goals as goal

pub returns : goal.returns
returns c = layout_is
