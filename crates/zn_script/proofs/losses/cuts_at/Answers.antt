use Rattle.std.proofs.Common.{◌≡◌, ◌∙◌, ℕ, List, [], Err, drop, ap, sym, subst, arith}
use Rattle.std.proofs.lemmas.Grind.{common_steps}
use Rattle.std.proofs.lemmas.List.{take_rest}
use Rattle.zn_script.specs.Cuts.{cut_meant}
use Rattle.zn_script.specs.Places.{left_at}
use Rattle.zn_script.proofs.CutLoop.{all_cuts, cuts-added, cuts-refused, AreAllCuts, cuts-all}
use Rattle.zn_script.proofs.losses.cuts_at.Goals as goal

pub loop-place-preserved : goal.loop-place-preserved
loop-place-preserved c =
    let read = c.loop-place.invariant.read in
    record {
      within = c.in_ok-end.ensures.place;
      read = cuts-added c.args.line.now c.args.at c.loop-place.place c.in_ok-end.end c.loop-place.count (cut_meant c.in_ok-end.field-0-0) read (c.in_ok-end.ensures.gives read.found read.counted);
    }

pub returns-in_err-end-clause-gives : goal.returns-in_err-end-clause-gives
returns-in_err-end-clause-gives c =
    let line = c.args.line.now in
    let read = c.loop-place.invariant.read in
    let fault : all_cuts [] (left_at line c.args.at) ≡ Err c.in_err-end.field-0.0 =
    cuts-refused line c.args.at c.loop-place.place c.loop-place.count c.in_err-end.field-0.0 read c.loop-place-test.true (c.in_err-end.ensures.gives read.found read.counted) in
    grind (arith, common_steps, fault)

pub returns : goal.returns
returns c =
    let line = c.args.line.now in
    let Named : List ℕ → Type 0 = λ words. AreAllCuts line words c.args.at in
    let all = subst Named (sym (take_rest line c.min.result ∙ ap (λ k. drop k line) c.min.ensures))
    (cuts-all line c.args.at c.loop-place.place c.loop-place.count c.loop-place.invariant.read c.loop-place-test.false) in
    record { gives = all.gives; fit = all.fit }
