use Rattle.std.proofs.Common.{◌≡◌, None, Some, refl, sym, ap, ◌∙◌, arith}
use Rattle.zn_session.specs.SessionState.{number_at}
use Rattle.zn_session.proofs.Answering.{still}
use Rattle.zn_session.proofs.LineSteps.{close_free}
use Rattle.zn_session.proofs.Opening.{closed_answers, busy_answers}
use Rattle.zn_session.proofs.calls.close.Goals as goal

pub returns-in_default : goal.returns-in_default
returns-in_default g c = λ kept.
    let same = c.handle_of.ensures ∙ ap (λ numbers. number_at numbers c.args.number) c.deref.ensures.value in
    let free : number_at c.args.numbers.now.items c.args.number ≡ None = sym same ∙ c.in_default.is in
    still tt (close_free _ _ _ _ free) refl c.requires.numbered c.requires.unspoilt

pub returns-then-is_busy : goal.returns-then-is_busy
returns-then-is_busy g c = λ kept.
    let same = c.handle_of.ensures ∙ ap (λ numbers. number_at numbers c.args.number) c.deref.ensures.value in
    let has : number_at c.args.numbers.now.items c.args.number ≡ Some c.in-Some.h = sym same ∙ c.in-Some.is in
    busy_answers c.args.volume.now c.close-answer.new.self c.args.numbers.now.items c.args.number c.in-Some.h c.done.result kept c.close-answer.result c.requires.numbered has
    c.close-answer.ensures.reply c.close-answer.ensures.mounted c.close-answer.ensures.cause (c.done.ensures kept) (sym c.is_busy.ensures ∙ c.if-is_busy.true)

pub returns : goal.returns
returns g c = λ kept.
    let same = c.handle_of.ensures ∙ ap (λ numbers. number_at numbers c.args.number) c.deref.ensures.value in
    let has : number_at c.args.numbers.now.items c.args.number ≡ Some c.in-Some.h = sym same ∙ c.in-Some.is in
    closed_answers c.args.volume.now c.close-answer.new.self c.args.numbers.now.items c.args.number c.in-Some.h c.done-2.result kept c.close-answer.result c.requires.numbered has
    c.close-answer.ensures.reply c.close-answer.ensures.mounted c.close-answer.ensures.cause (c.done-2.ensures kept) (omega (arith, c.requires.number, c.requires.numbered.count)) (sym c.is_busy.ensures ∙ c.if-is_busy.false)
