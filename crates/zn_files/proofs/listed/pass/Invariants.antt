use Rattle.std.proofs.Common.{◌≡◌, ◌++◌, take, drop, map}
use Rattle.zn_files.specs.Listed.{passed_one}
use Rattle.zn_files.proofs.listed.pass.Given as goal

-- those before the index have passed
abbrev pub invariant-loop-i : goal.invariant-loop-i
invariant-loop-i l = l.listed.items ≡ map (passed_one l.call) (take l.i l.fn.listed.items) ++ drop l.i l.fn.listed.items
