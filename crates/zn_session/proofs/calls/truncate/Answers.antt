use Rattle.std.proofs.Common.{refl, sym}
use Rattle.zn_model.specs.Truncating.{truncate_call}
use Rattle.zn_model.proofs.KeysKeptCalls.{truncate_keeps}
use Rattle.zn_volume.specs.VolumeState.{mounted_in}
use Rattle.zn_session.proofs.Answering.{still, tells_call}
use Rattle.zn_session.proofs.LineSteps.{truncate_step, truncate_free}
use Rattle.zn_session.proofs.Tickets.{truncate_gave}
use Rattle.zn_session.proofs.calls.truncate.Goals as goal

pub returns-in-None : goal.returns-in-None
returns-in-None g c = λ kept. still tt (truncate_free _ _ _ _ _ (sym c.in-None.ensures)) refl c.requires.numbered c.requires.unspoilt

pub returns-in-Some : goal.returns-in-Some
returns-in-Some g c = λ kept.
    tells_call (truncate_call (mounted_in c.args.volume.now) c.in-Some.h c.args.size) (truncate_step _ _ _ _ _ _ c.requires.numbered (sym c.in-Some.ensures)) c.truncate.ensures.reply c.truncate.ensures.mounted
    (truncate_keeps _ _ _) (truncate_gave _ _ _) c.requires.numbered c.truncate.ensures.cause (c.done.ensures kept)
