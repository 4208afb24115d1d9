use Rattle.std.proofs.Common.{◌≡◌, true, None, refl, sym, ap, ◌∙◌, arith}
use Rattle.std.specs.Prelude.{is_some}
use Rattle.zn_session.specs.SessionState.{number_at}
use Rattle.zn_session.proofs.Answering.{still}
use Rattle.zn_session.proofs.Opens.{open_used, not_some}
use Rattle.zn_session.proofs.Opening.{opened_answers, refused_answers}
use Rattle.zn_session.proofs.calls.open.Goals as goal

pub returns-then-is_some : goal.returns-then-is_some
returns-then-is_some g c = λ kept.
    let same = c.handle_of.ensures ∙ ap (λ numbers. number_at numbers c.args.number) c.deref.ensures.value in
    let used : is_some (number_at c.args.numbers.now.items c.args.number) ≡ true = sym (ap is_some same) ∙ sym c.is_some.ensures ∙ c.if-is_some.true in
    still tt (open_used _ _ _ _ _ _ _ used) refl c.requires.numbered c.requires.unspoilt

pub returns-in-Ok : goal.returns-in-Ok
returns-in-Ok g c = λ kept.
    let same = c.handle_of.ensures ∙ ap (λ numbers. number_at numbers c.args.number) c.deref.ensures.value in
    let free : number_at c.args.numbers.now.items c.args.number ≡ None = not_some (sym (ap is_some same) ∙ sym c.is_some.ensures ∙ c.if-is_some.false) in
    opened_answers c.args.volume.now c.open.new.self c.args.numbers.now.items c.args.number c.args.path.now c.args.mode c.args.who kept c.requires.numbered free
    c.in-Ok.h (omega (arith, c.requires.number, c.requires.numbered.count)) c.in-Ok.ensures.reply c.in-Ok.ensures.mounted c.in-Ok.ensures.cause

pub returns-in-Err : goal.returns-in-Err
returns-in-Err g c = λ kept.
    let same = c.handle_of.ensures ∙ ap (λ numbers. number_at numbers c.args.number) c.deref.ensures.value in
    let free : number_at c.args.numbers.now.items c.args.number ≡ None = not_some (sym (ap is_some same) ∙ sym c.is_some.ensures ∙ c.if-is_some.false) in
    refused_answers c.args.volume.now c.open.new.self c.args.numbers.now.items c.args.number c.args.path.now c.args.mode c.args.who kept c.requires.numbered free
    c.in-Err.refusal c.in-Err.ensures.reply c.in-Err.ensures.mounted c.in-Err.ensures.cause
