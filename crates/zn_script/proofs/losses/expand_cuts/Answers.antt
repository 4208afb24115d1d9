use Rattle.std.proofs.Common.{◌∙◌, ◌+◌, ◌++◌, ◌∷◌, [], ℕ, ap, sym}
use Rattle.std.proofs.lemmas.Bool.{eqb-true}
use Rattle.zn_truth.specs.declared.ZoneNo.{ZoneNo}
use Rattle.zn_script.specs.Cuts.{cut_meant, cuts_meant}
use Rattle.zn_script.specs.Places.{left_at}
use Rattle.zn_script.proofs.CutLoop.{all_cuts, cuts-start, cuts-nothing, cuts-no_other, cuts-next, cuts-end, cuts-beyond, narrow-none, narrow-some, cut-pushed}
use Rattle.zn_script.proofs.losses.expand_cuts.Goals as goal

-- a zone and its blocks
abbrev cut_of_numbers : ℕ → ℕ → ZoneNo × ℕ
cut_of_numbers zone blocks = (record { 0 = zone }, blocks)

pub returns-then-is_empty : goal.returns-then-is_empty
returns-then-is_empty c = c.new-cuts.ensures ∙ cuts-nothing c.args.words.now (eqb-true _ 0 (sym (c.if-is_empty.ensures {u = tt})))

pub loop-place-init : goal.loop-place-init
loop-place-init c =
    let words = c.args.words.now in
    ap (λ cuts. all_cuts cuts (left_at words 0)) c.new-cuts.ensures ∙ cuts-start words (sym (c.if-is_empty.ensures {u = tt})) c.requires

pub returns-in_err-cut : goal.returns-in_err-cut
returns-in_err-cut c =
    absurd (cuts-no_other c.args.words.now c.loop-place.place c.word_end-end.result c.loop-place.cuts (cuts_meant c.args.words.now) c.word_end-end.ensures.word c.word_end-end.ensures.later c.loop-place.invariant c.in_err-cut.ensures)

pub returns-in_err-zone : goal.returns-in_err-zone
returns-in_err-zone c =
    let words = c.args.words.now in
    let next = cuts-next words c.loop-place.place c.word_end-end.result c.loop-place.cuts (cuts_meant words) (cut_meant c.in_ok-cut.cut) c.word_end-end.ensures.word c.word_end-end.ensures.later c.loop-place.invariant c.in_ok-cut.ensures in
    rw c.from_residual-in_err-zone.ensures (cuts-beyond words c.word_end-end.result c.loop-place.cuts (cuts_meant words) (cut_meant c.in_ok-cut.cut) next (narrow-none c.try_from.result c.in_ok-cut.cut.zone c.try_from.ensures c.in_err-zone.ensures.value))

pub loop-place-preserved : goal.loop-place-preserved
loop-place-preserved c =
    let words = c.args.words.now in
    let next = cuts-next words c.loop-place.place c.word_end-end.result c.loop-place.cuts (cuts_meant words) (cut_meant c.in_ok-cut.cut) c.word_end-end.ensures.word c.word_end-end.ensures.later c.loop-place.invariant c.in_ok-cut.ensures in
    let zone = narrow-some c.try_from.result c.in_ok-cut.cut.zone c.in_ok-zone.zone c.try_from.ensures c.in_ok-zone.ensures.value in
    let pushed = cut-pushed c.push.result _ _ c.push.ensures.added (c.push.ensures.room.1 next.room) in
    ap (λ cuts. all_cuts cuts (left_at words (c.word_end-end.result + 1))) (pushed ∙ ap (λ z. c.loop-place.cuts ++ cut_of_numbers z c.in_ok-cut.cut.blocks ∷ []) zone) ∙ next.follow

pub returns : goal.returns
returns c = cuts-end c.loop-place.cuts (cuts_meant c.args.words.now) c.args.words.now c.loop-place.place c.loop-place-test.false c.loop-place.invariant
