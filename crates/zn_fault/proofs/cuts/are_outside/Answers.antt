use Rattle.std.proofs.Common.{Ok, sym, ap, ◌∙◌}
use Rattle.zn_truth.specs.Truth.{Truth}
use Rattle.zn_truth.specs.Inject.{is_outside}
use Rattle.zn_fault.proofs.Cutting.{any_found, any_passed, cut_inside}
use Rattle.zn_fault.proofs.Harming.{asked_again, truth_between}
use Rattle.zn_fault.proofs.cuts.are_outside.Goals as goal

pub is_outside-requires-clause-zone : goal.is_outside-requires-clause-zone
is_outside-requires-clause-zone g c =
    cut_inside (g.D.Zoned.state c.args.dev.now).world (g.D.Zoned.state c.loop-i.dev).world c.args.cuts.now c.loop-i.i c.at.result c.requires.cuts c.at.ensures c.loop-i.invariant.asked.geometry

pub returns-then-branch-clause-value : goal.returns-then-branch-clause-value
returns-then-branch-clause-value g c =
    any_found (is_outside (g.D.Zoned.state c.args.dev.now).world.truth) c.args.cuts.now c.loop-i.i c.at.result _ c.at.ensures
    (ap (λ (t : Truth). is_outside t c.at.result) (sym (truth_between c.loop-i.invariant.asked)) ∙ sym c.in_ok-is_outside.ensures.value ∙ c.if-branch.true) c.loop-i.invariant.rest

pub loop-i-preserved : goal.loop-i-preserved
loop-i-preserved g c = record {
  rest = any_passed (is_outside (g.D.Zoned.state c.args.dev.now).world.truth) c.args.cuts.now c.loop-i.i c.at.result _ c.at.ensures
      (ap (λ (t : Truth). is_outside t c.at.result) (sym (truth_between c.loop-i.invariant.asked)) ∙ sym c.in_ok-is_outside.ensures.value ∙ c.if-branch.false) c.loop-i.invariant.rest;
  asked = asked_again (Ok tt) (g.D.Zoned.state c.args.dev.now) (g.D.Zoned.state c.loop-i.dev) (g.D.Zoned.state c.is_outside.new.dev) c.loop-i.invariant.asked c.in_ok-is_outside.ensures.asked;
}
