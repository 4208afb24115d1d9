use Rattle.zn_model.specs.Requests.{reap_call}
use Rattle.zn_model.proofs.KeysKeptQueue.{reap_keeps}
use Rattle.zn_volume.specs.VolumeState.{mounted_in}
use Rattle.zn_session.proofs.Answering.{tells_call, untouched}
use Rattle.zn_session.proofs.Requests.{reap_step}
use Rattle.zn_session.proofs.Tickets.{reap_gave}
use Rattle.zn_session.proofs.calls.reap.Goals as goal

pub returns : goal.returns
returns g c = λ kept numbers numbered.
    tells_call (reap_call (mounted_in c.args.volume.now)) (reap_step _ _ numbers) (λ unspoilt. c.reap.ensures.reply) (λ unspoilt. c.reap.ensures.mounted)
    (reap_keeps _) (reap_gave _) numbered (untouched c.reap.ensures.told c.reap.ensures.device c.requires.unspoilt) (c.reaped.ensures kept)
