use Rattle.zn_stand.proofs.DeviceNames.{within_limits, limits_within}
use Rattle.zn_stand.proofs.device_laws.limits_are_tested.Goals as goal

pub returns : goal.returns
returns c = λ geo. (within_limits geo, limits_within geo)
