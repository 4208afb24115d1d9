use Rattle.std.proofs.Common.{arith, ap, ◌∙◌, set}
use Rattle.std.proofs.lemmas.List.Edits.{map_over_more}
use Rattle.zn_files.specs.Listed.{passed_one}
use Rattle.zn_files.proofs.listed.pass.Goals as goal

pub loop-i-preserved : goal.loop-i-preserved
loop-i-preserved c =
    ap (set c.loop-i.listed.items c.loop-i.i) c.passed_one.ensures
    ∙ map_over_more (passed_one c.args.call) c.args.listed.now.items c.loop-i.listed.items c.loop-i.i c.index.result.now (omega (arith, c.len-i-end.ensures)) c.loop-i.invariant c.index.ensures
