use Rattle.std.proofs.Common.{refl, sym}
use Rattle.zn_model.specs.Reading.{size_call}
use Rattle.zn_model.proofs.KeysKeptCalls.{size_keeps}
use Rattle.zn_volume.specs.VolumeState.{mounted_in}
use Rattle.zn_session.proofs.Answering.{still, tells_look}
use Rattle.zn_session.proofs.LineSteps.{size_step, size_free, size_same}
use Rattle.zn_session.proofs.calls.size.Goals as goal

pub returns-in-None : goal.returns-in-None
returns-in-None g c = λ kept. still tt (size_free _ _ _ _ (sym c.in-None.ensures)) refl c.requires.numbered c.requires.unspoilt

pub returns-in-Some : goal.returns-in-Some
returns-in-Some g c = λ kept.
    tells_look (size_call (mounted_in c.args.volume.now) c.in-Some.h) (size_step _ _ _ _ _ c.requires.numbered (sym c.in-Some.ensures)) c.size.ensures.reply (size_same _ _)
    c.size.ensures.told c.requires.unspoilt (size_keeps _ _) c.requires.numbered (c.number.ensures kept)
