use Rattle.std.proofs.Common.{ap}
use Rattle.zn_commands.proofs.DeviceLaws.{lies_in}
use Rattle.zn_commands.proofs.devices.give_back.Goals as goal

pub returns : goal.returns
returns g c = lies_in _ _ _ _ _ (ap g.F.Files.state c.into_files.ensures.files) c.into_files.ensures.stands
