use Rattle.std.proofs.Common.{◌≡◌, take, refl, sym, ap, ◌∙◌}
use Rattle.zn_lines.specs.Lines.{bytes_of}
use Rattle.zn_model.specs.Writing.{write_call}
use Rattle.zn_model.proofs.KeysKeptCalls.{write_keeps}
use Rattle.zn_script.specs.Meant.{runs_meant}
use Rattle.zn_volume.specs.VolumeState.{mounted_in}
use Rattle.zn_session.proofs.Answering.{still, tells_call}
use Rattle.zn_session.proofs.LineSteps.{write_step, write_free}
use Rattle.zn_session.proofs.Tickets.{write_gave}
use Rattle.zn_session.proofs.calls.write.Goals as goal

pub returns-in-None-clause-answers : goal.returns-in-None-clause-answers
returns-in-None-clause-answers g c = λ zones. still tt (write_free _ _ _ _ _ _ (sym c.in-None.ensures)) refl c.requires.numbered c.requires.unspoilt

pub returns-in-Some-clause-answers : goal.returns-in-Some-clause-answers
returns-in-Some-clause-answers g c = λ zones.
    let bytes : take c.put_data-len.result c.deref.result.now ≡ bytes_of (runs_meant c.args.word.now) = ap (take c.put_data-len.result) c.deref.ensures.value ∙ c.put_data-len.ensures.bytes in
    tells_call (write_call (mounted_in c.args.volume.now) c.in-Some.h c.args.offset (bytes_of (runs_meant c.args.word.now))) (write_step _ _ _ _ _ _ _ c.requires.numbered (sym c.in-Some.ensures))
    (λ unspoilt. c.write.ensures.reply unspoilt ∙ ap (λ written. (write_call (mounted_in c.args.volume.now) c.in-Some.h c.args.offset written).reply) bytes)
    (λ unspoilt. c.write.ensures.mounted unspoilt ∙ ap (λ written. (write_call (mounted_in c.args.volume.now) c.in-Some.h c.args.offset written).mounted) bytes)
    (write_keeps _ _ _ _) (write_gave _ _ _ _) c.requires.numbered c.write.ensures.cause (c.done.ensures _)
