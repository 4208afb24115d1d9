use Rattle.std.proofs.Common.{sym, ◌∙◌}
use Rattle.zn_fault.proofs.Cutting.{repeat_found, repeat_passed}
use Rattle.zn_fault.proofs.cuts.repeats.Goals as goal

pub returns-then-is_named : goal.returns-then-is_named
returns-then-is_named c = repeat_found c.args.cuts.now c.loop-i.i c.at.result c.at.ensures (sym c.is_named.ensures ∙ c.if-is_named.true) c.loop-i.invariant

pub loop-i-preserved : goal.loop-i-preserved
loop-i-preserved c = repeat_passed c.args.cuts.now c.loop-i.i c.at.result c.at.ensures (sym c.is_named.ensures ∙ c.if-is_named.false) c.loop-i.invariant
