use Rattle.zn_model.specs.Requests.{complete_call}
use Rattle.zn_model.proofs.KeysKeptQueue.{complete_keeps}
use Rattle.zn_volume.specs.VolumeState.{mounted_in}
use Rattle.zn_session.proofs.Answering.{tells_call}
use Rattle.zn_session.proofs.Requests.{complete_step}
use Rattle.zn_session.proofs.Tickets.{complete_gave}
use Rattle.zn_session.proofs.calls.complete.Goals as goal

pub returns : goal.returns
returns g c = λ kept numbers numbered.
    tells_call (complete_call (mounted_in c.args.volume.now)) (complete_step _ _ numbers) c.complete.ensures.reply c.complete.ensures.mounted
    (complete_keeps _) (complete_gave _) numbered c.complete.ensures.cause (c.number.ensures kept)
