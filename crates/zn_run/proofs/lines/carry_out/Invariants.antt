use Rattle.std.proofs.Common.{◌≤◌, ◌-◌, ◌+◌, length, take}
use Rattle.zn_run.specs.Progress.{CarriedOut}
use Rattle.zn_run.specs.States.{state_of}
use Rattle.zn_run.proofs.lines.carry_out.Given as goal

-- the lines before this place are carried out
abbrev pub invariant-loop-len : goal.invariant-loop-len
invariant-loop-len g l = record {
  within : l.at ≤ length l.script;
  numbered : l.number ≤ l.first + l.at;
  lines : CarriedOut
      (state_of (g.M.Machine.state l.fn.machine) (g.K.Sink.state l.fn.sink))
      (state_of (g.M.Machine.state l.machine) (g.K.Sink.state l.sink))
      l.first (take l.at l.script) l.number;
}

abbrev pub decreases-loop-len : goal.decreases-loop-len
decreases-loop-len g l = length l.script - l.at
