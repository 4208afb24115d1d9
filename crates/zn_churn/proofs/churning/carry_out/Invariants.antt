use Rattle.std.proofs.Common.{◌≡◌, ◌+◌, length}
use Rattle.zn_gen.specs.Churn.{lines_left}
use Rattle.zn_churn.specs.Churning.{carried}
use Rattle.zn_churn.specs.Lines.{GoesOn}
use Rattle.zn_churn.specs.Tally.{nothing, IsWithin}
use Rattle.zn_churn.proofs.churning.carry_out.Given as goal

-- what the lines come to that are left is what all of them come to
abbrev pub invariant-loop-len : goal.invariant-loop-len
invariant-loop-len g l = record {
  came : carried (lines_left l.fn.script) (record { table = (g.M.Machine.state l.fn.machine).table; tally = nothing })
      ≡ carried (lines_left l.script) (record { table = (g.M.Machine.state l.machine).table; tally = l.tally });
  within : IsWithin l.tally;
  left : l.tally.lines + length (lines_left l.script) ≡ length (lines_left l.fn.script);
  counted : (g.M.Machine.state l.machine).steps ≡ (g.M.Machine.state l.fn.machine).steps + l.tally.lines;
  breaks : (g.M.Machine.state l.machine).breaks ≡ (g.M.Machine.state l.fn.machine).breaks;
  goes_on : GoesOn (g.M.Machine.state l.machine);
}

abbrev pub decreases-loop-len : goal.decreases-loop-len
decreases-loop-len g l = length (lines_left l.script)
