use Rattle.std.proofs.Common.{refl, sym}
use Rattle.zn_model.specs.Reading.{read_call}
use Rattle.zn_model.proofs.KeysKeptCalls.{read_keeps}
use Rattle.zn_volume.specs.VolumeState.{mounted_in}
use Rattle.zn_volume.proofs.Causing.{as_read_cause}
use Rattle.zn_session.proofs.Answering.{still, tells_call}
use Rattle.zn_session.proofs.LineSteps.{read_step, read_free}
use Rattle.zn_session.proofs.Tickets.{read_gave}
use Rattle.zn_session.proofs.calls.read.Goals as goal

pub returns-in-None-clause-answers : goal.returns-in-None-clause-answers
returns-in-None-clause-answers g c = λ zones. still tt (read_free _ _ _ _ _ _ (sym c.in-None.ensures)) refl c.requires.numbered c.requires.unspoilt

pub returns-in-Some-clause-answers : goal.returns-in-Some-clause-answers
returns-in-Some-clause-answers g c = λ zones.
    tells_call (read_call c.read_into.new.buffer.items (mounted_in c.args.volume.now) c.in-Some.h c.args.offset c.args.len) (read_step _ _ _ _ _ _ _ c.requires.numbered (sym c.in-Some.ensures)) c.read_into.ensures.reply c.read_into.ensures.mounted
    (read_keeps _ _ _ _ _) (read_gave _ _ _ _ _) c.requires.numbered (as_read_cause _ _ c.read_into.ensures.cause) (c.bytes.ensures _ c.read_into.ensures.long)
