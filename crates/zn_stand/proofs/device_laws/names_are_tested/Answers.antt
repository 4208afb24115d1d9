use Rattle.zn_stand.proofs.DeviceNames.{names_tested}
use Rattle.zn_stand.proofs.device_laws.names_are_tested.Goals as goal

pub returns : goal.returns
returns c = names_tested
