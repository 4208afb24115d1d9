use Rattle.std.proofs.Common.{◌≡◌, take, refl, sym, ap, ◌∙◌}
use Rattle.zn_lines.specs.Lines.{bytes_of}
use Rattle.zn_model.specs.Requests.{submit_call}
use Rattle.zn_model.proofs.KeysKeptQueue.{submit_once, submit_handles}
use Rattle.zn_script.specs.Meant.{runs_meant}
use Rattle.zn_volume.specs.VolumeState.{mounted_in}
use Rattle.zn_session.proofs.Answering.{still, no_more, tells_numbers, untouched}
use Rattle.zn_session.proofs.Closes.{numbered_busy}
use Rattle.zn_session.proofs.Requests.{submit_step, submit_free}
use Rattle.zn_session.proofs.Tickets.{submit_gave}
use Rattle.zn_session.proofs.calls.submit.Goals as goal

pub returns-in-None-clause-answers : goal.returns-in-None-clause-answers
returns-in-None-clause-answers g c = λ zones. still tt (submit_free _ _ _ _ _ _ (sym c.in-None.ensures)) refl c.requires.numbered c.requires.unspoilt

pub returns-in-Some-clause-answers : goal.returns-in-Some-clause-answers
returns-in-Some-clause-answers g c = λ zones.
    let old = mounted_in c.args.volume.now in
    let due = bytes_of (runs_meant c.args.word.now) in
    let bytes : take c.put_data-len.result c.deref.result.now ≡ due = ap (take c.put_data-len.result) c.deref.ensures.value ∙ c.put_data-len.ensures.bytes in
    let answer = submit_call old c.in-Some.h c.args.offset due in
    tells_numbers answer _ (λ unspoilt. submit_step _ _ _ _ _ _ _ c.requires.numbered (sym c.in-Some.ensures))
    (λ unspoilt. c.submit.ensures.reply ∙ ap (λ written. (submit_call old c.in-Some.h c.args.offset written).reply) bytes)
    (λ unspoilt. c.submit.ensures.mounted ∙ ap (λ written. (submit_call old c.in-Some.h c.args.offset written).mounted) bytes)
    (λ unspoilt. numbered_busy old answer.mounted _ c.requires.numbered (submit_handles _ _ _ _) (submit_once _ _ _ _ c.requires.numbered.once))
    (λ unspoilt. no_more old answer.mounted (submit_handles _ _ _ _) (submit_gave _ _ _ _))
    (untouched c.submit.ensures.told c.submit.ensures.device c.requires.unspoilt) (c.number.ensures _)
