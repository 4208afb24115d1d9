use Rattle.std.proofs.Common.{◌≡◌, ◌≤◌, ◌-◌, ◌+◌, length, take}
use Rattle.zn_lines.specs.declared.limits.TheConstants.{LINE_LIMIT, SCRIPT_LIMIT}
use Rattle.zn_lines.specs.Transcript.{OneLine}
use Rattle.zn_run.specs.declared.script.TheConstants.{BUFFER}
use Rattle.zn_run.specs.States.{run_of}
use Rattle.zn_run.proofs.ScriptLaws.{Holds}
use Rattle.zn_run.proofs.runs.run_pieces.Given as goal

-- what is kept is no whole line, and the lines before it are carried out
abbrev pub invariant-loop-machine : goal.invariant-loop-machine
invariant-loop-machine g l = record {
  sized : length l.buffer ≡ BUFFER;
  fits : l.kept ≤ LINE_LIMIT;
  within : l.taken ≤ SCRIPT_LIMIT;
  numbered : l.number + l.kept ≤ 1 + l.taken;
  one : OneLine (take l.kept l.buffer);
  holds : Holds
      (run_of (g.M.Machine.state l.fn.machine) (g.S.Source.state l.fn.source) (g.K.Sink.state l.fn.sink))
      (run_of (g.M.Machine.state l.machine) (g.S.Source.state l.source) (g.K.Sink.state l.sink))
      (take l.kept l.buffer) l.taken l.number;
}

abbrev pub decreases-loop-machine : goal.decreases-loop-machine
decreases-loop-machine g l = SCRIPT_LIMIT + 1 - l.taken
