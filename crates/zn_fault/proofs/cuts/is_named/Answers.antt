use Rattle.std.proofs.Common.{◌==◌, arith}
use Rattle.std.proofs.lemmas.Bool.Decides.{nat_tests}
use Rattle.zn_fault.proofs.Cutting.{any_found, any_passed}
use Rattle.zn_fault.proofs.cuts.is_named.Goals as goal

pub returns-then-at-z : goal.returns-then-at-z
returns-then-at-z c = any_found (λ cut. cut.0.0 == c.args.z.0) c.args.cuts.now c.loop-i.i c.at.result _ c.at.ensures (grind (arith, nat_tests)) c.loop-i.invariant

pub loop-i-preserved : goal.loop-i-preserved
loop-i-preserved c = any_passed (λ cut. cut.0.0 == c.args.z.0) c.args.cuts.now c.loop-i.i c.at.result _ c.at.ensures (grind (arith, nat_tests)) c.loop-i.invariant
