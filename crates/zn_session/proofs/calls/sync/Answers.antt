use Rattle.std.proofs.Common.{refl, sym}
use Rattle.zn_model.specs.Truncating.{sync_call}
use Rattle.zn_model.proofs.KeysKeptCalls.{sync_keeps}
use Rattle.zn_volume.specs.VolumeState.{mounted_in}
use Rattle.zn_session.proofs.Answering.{still, tells_call}
use Rattle.zn_session.proofs.LineSteps.{sync_step, sync_free}
use Rattle.zn_session.proofs.Tickets.{sync_gave}
use Rattle.zn_session.proofs.calls.sync.Goals as goal

pub returns-in-None : goal.returns-in-None
returns-in-None g c = λ kept. still tt (sync_free _ _ _ _ (sym c.in-None.ensures)) refl c.requires.numbered c.requires.unspoilt

pub returns-in-Some : goal.returns-in-Some
returns-in-Some g c = λ kept.
    tells_call (sync_call (mounted_in c.args.volume.now) c.in-Some.h) (sync_step _ _ _ _ _ c.requires.numbered (sym c.in-Some.ensures)) c.sync.ensures.reply c.sync.ensures.mounted
    (sync_keeps _ _) (sync_gave _ _) c.requires.numbered c.sync.ensures.cause (c.done.ensures kept)
