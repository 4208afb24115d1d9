use Rattle.zn_stand.proofs.Histories.{now_is_since, only_now, later_adds}
use Rattle.zn_stand.proofs.laws.time_goes_on.Goals as goal

pub returns : goal.returns
returns c = record { now = now_is_since; only_now = only_now; later = later_adds }
