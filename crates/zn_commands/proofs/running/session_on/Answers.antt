use Rattle.zn_device.specs.States.{DeviceState}
use Rattle.zn_zloop.specs.Telling.{state_told}
use Rattle.zn_commands.proofs.RunningLaws.{begun_session}
use Rattle.zn_commands.proofs.running.session_on.Goals as goal

pub returns-in-Ok-new-clause-begun : goal.returns-in-Ok-new-clause-begun
returns-in-Ok-new-clause-begun g c =
    let device : DeviceState = state_told c.args.device.is_spoilt (g.F.Files.state c.args.device.files) c.args.device.zones c.args.device.kepts.items in
    begun_session _ device _ c.args.entropy c.in-Ok-new.ensures.begun c.in-Ok.ensures.made c.requires.unspoilt
