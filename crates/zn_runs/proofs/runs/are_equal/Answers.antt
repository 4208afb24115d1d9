use Rattle.std.proofs.Common.{rules}
use Rattle.zn_runs.proofs.LaneLaws.{no_load_differs}
use Rattle.zn_runs.proofs.runs.are_equal.Goals as goal

-- src/runs.rt:41:1
pub returns : goal.returns
returns c = λ none. no_load_differs c.args.bytes.now c.args.at c.args.byte c.requires (grind (rules, none))
