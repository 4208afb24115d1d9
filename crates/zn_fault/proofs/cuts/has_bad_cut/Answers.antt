use Rattle.std.proofs.Common.{sym, ◌∙◌}
use Rattle.zn_truth.specs.Inject.{is_bad_cut}
use Rattle.zn_fault.proofs.Cutting.{any_found, any_passed}
use Rattle.zn_fault.proofs.cuts.has_bad_cut.Goals as goal

pub returns-then-is_bad_cut : goal.returns-then-is_bad_cut
returns-then-is_bad_cut g c =
    any_found (is_bad_cut (g.D.Zoned.state c.args.dev.now).world.truth) c.args.cuts.now c.loop-i.i c.at.result _ c.at.ensures (sym c.is_bad_cut.ensures ∙ c.if-is_bad_cut.true) c.loop-i.invariant

pub loop-i-preserved : goal.loop-i-preserved
loop-i-preserved g c =
    any_passed (is_bad_cut (g.D.Zoned.state c.args.dev.now).world.truth) c.args.cuts.now c.loop-i.i c.at.result _ c.at.ensures (sym c.is_bad_cut.ensures ∙ c.if-is_bad_cut.false) c.loop-i.invariant
