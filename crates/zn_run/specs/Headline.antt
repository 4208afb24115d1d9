-- What a whole run did, by its status. (own)
use Rattle.std.specs.Prelude.{◌≡◌, ◌⊎◌, ℕ, true, false, List, [], take, Some}
use Rattle.zn_base.specs.States.{SinkState}
use Rattle.zn_lines.specs.declared.limits.TheConstants.{SCRIPT_LIMIT}
use Rattle.zn_lines.specs.declared.runs.Tail.{Tail}
use Rattle.zn_lines.specs.declared.runs.Tail.TheVariants.{End, Fault as fault_tail, Over, More}
use Rattle.zn_lines.specs.declared.runs.Ending.{Ending}
use Rattle.zn_lines.specs.Transcript.{Transcript, transcript_at, last_line}
use Rattle.zn_run.specs.Endings.{out_of_memory, host_fault}
use Rattle.zn_run.specs.Progress.{Reached, StoppedBy}
use Rattle.zn_run.specs.Script.{Taken, IsNear}
use Rattle.zn_run.specs.States.{State, Run, state_of, driven, Added, CutOff}
use Rattle.zn_run.specs.Statuses.{EndsBy, line_of}
use Rattle.zn_run.specs.declared.machine.Step.TheVariants.{Broken as broken_step, SinkFault as cut_step, Memory as starved_step}
use Rattle.zn_run.specs.declared.status.Status.{Status}
use Rattle.zn_run.specs.declared.status.Status.TheVariants.{Done, Usage, Script, Directory, HostFault, ReadFault, WriteFault, Memory}

-- ---- the last line

-- The last line of a run is written, which then has this status, or the sink failed in it.
abbrev pub Closes : Status → Status → List ℕ → SinkState → SinkState → Type 0
Closes result status line old new =
    ((result ≡ status) × Added line old new) ⊎ ((result ≡ WriteFault) × CutOff line old new)

-- unless the sink failed, it holds nothing back
abbrev pub IsPassed : Status → SinkState → Type 0
IsPassed result sink = (result ≡ WriteFault) ⊎ (sink.held_back ≡ false)

-- The same, and no byte is left in the sink.
pub record Closed (result status : Status) (line : List ℕ) (old new : SinkState) : Type 0 where
  pub means : Closes result status line old new
  pub passed : IsPassed result new

-- ---- how a run comes to its last line

-- The replies of this transcript are written, and the table is its own.
pub record RanWhole (status : Status) (tail : Tail) (t : Transcript) (line : List ℕ) (old new : State) : Type 0 where
  pub ends : EndsBy status tail t.ending
  pub last : line ≡ last_line t.ending
  pub table : new.machine.table ≡ t.table
  pub breaks : new.machine.breaks ≡ old.machine.breaks
  pub spoilt : new.machine.spoilt ≡ old.machine.spoilt
  pub replies : Added t.text old.sink new.sink

-- The replies of all of the script are written. Where the device tells its bytes, nothing is given. Where it doesn't, the
-- bytes that reads give are those given, a list for each line, and all else is as exact.
pub record RanGiven (status : Status) (tail : Tail) (first : ℕ) (script line : List ℕ) (old new : State) : Type 0 where
  pub givens : List (List ℕ)
  pub told : old.machine.table.world.truth.told ≡ true → givens ≡ []
  pub whole : RanWhole status tail (transcript_at givens tail old.machine.table first script) line old new

-- The script ended the run at a line, whose number is told, and few bytes were taken from its first one on.
pub record RanEnded (tail : Tail) (first : ℕ) (script line : List ℕ) (old new : State) : Type 0 where
  pub given : RanGiven Script tail first script line old new
  pub ending : Ending
  pub last : line ≡ last_line ending
  pub reached : Reached old first script
  pub numbered : line_of ending ≡ Some reached.number
  pub near : IsNear tail reached.rest

-- the host failed in a line, whose number is told, and few bytes were taken from its first one on
pub record RanBroken (tail : Tail) (first : ℕ) (script line : List ℕ) (old new : State) : Type 0 where
  pub stopped : StoppedBy broken_step tail first script old new
  pub last : line ≡ host_fault stopped.reached.number
  pub near : IsNear tail stopped.reached.rest

-- there was no memory for a line
pub record RanStarved (tail : Tail) (first : ℕ) (script line : List ℕ) (old new : State) : Type 0 where
  pub stopped : StoppedBy starved_step tail first script old new
  pub last : line ≡ out_of_memory

-- how a run came to its last line, by the status that it has if this is written
abbrev pub ComesTo : Status → Tail → ℕ → List ℕ → List ℕ → State → State → Type 0
ComesTo Done tail first script line old new = RanGiven Done tail first script line old new
ComesTo Usage tail first script line old new = ⊥
ComesTo Script tail first script line old new = RanEnded tail first script line old new
ComesTo Directory tail first script line old new = ⊥
ComesTo HostFault tail first script line old new = RanBroken tail first script line old new
ComesTo ReadFault tail first script line old new = RanGiven ReadFault tail first script line old new
ComesTo WriteFault tail first script line old new = ⊥
ComesTo Memory tail first script line old new = RanStarved tail first script line old new

-- ---- a run of some bytes

-- The run came to this last line, and the sink was as it is here.
pub record ToLast (status : Status) (tail : Tail) (first : ℕ) (script : List ℕ) (old new : State) : Type 0 where
  pub line : List ℕ
  pub sink : SinkState
  pub comes : ComesTo status tail first script line old (state_of new.machine sink)

-- the last line is written
pub record RanTo (status : Status) (tail : Tail) (first : ℕ) (script : List ℕ) (old new : State) : Type 0 where
  pub to : ToLast status tail first script old new
  pub written : Added to.line to.sink new.sink

-- The sink failed in the reply of a line, or behind replies that it held back, or in the last line.
pub data RanCut (tail : Tail) (first : ℕ) (script : List ℕ) (old new : State) : Type 0 where
  in_reply : StoppedBy cut_step tail first script old new → RanCut tail first script old new
  behind : (reached : Reached old first script) → new.machine ≡ reached.state.machine → CutOff [] reached.state.sink new.sink
      → RanCut tail first script old new
  in_last : (status : Status) (to : ToLast status tail first script old new) → CutOff to.line to.sink new.sink
      → RanCut tail first script old new

-- what each status says of a run of these bytes
abbrev pub RanMeans : Status → Tail → ℕ → List ℕ → State → State → Type 0
RanMeans Done tail first script old new = RanTo Done tail first script old new
RanMeans Usage tail first script old new = ⊥
RanMeans Script tail first script old new = RanTo Script tail first script old new
RanMeans Directory tail first script old new = ⊥
RanMeans HostFault tail first script old new = RanTo HostFault tail first script old new
RanMeans ReadFault tail first script old new = RanTo ReadFault tail first script old new
RanMeans WriteFault tail first script old new = RanCut tail first script old new
RanMeans Memory tail first script old new = RanTo Memory tail first script old new

-- the run did what its status says, and no reply is left in the sink
pub record Ran (status : Status) (tail : Tail) (first : ℕ) (script : List ℕ) (old new : State) : Type 0 where
  pub means : RanMeans status tail first script old new
  pub passed : IsPassed status new.sink

-- ---- the whole run

-- there was no memory for the buffer of lines: no line is carried out, and only this is told
pub record Unrun (result : Status) (old new : State) : Type 0 where
  pub still : new.machine ≡ old.machine
  pub closed : Closed result Memory out_of_memory old.sink new.sink

-- the same, and nothing was taken
pub record Unbegun (result : Status) (taken : List ℕ) (old new : State) : Type 0 where
  pub none : taken ≡ []
  pub unrun : Unrun result old new

-- The bytes that were taken are run up to the limit of a script. Where no more is known of what comes after them, a line
-- has ended the run before all was read, or it has not begun.
abbrev pub RunsBy : Tail → Status → List ℕ → State → State → Type 0
RunsBy End result taken old new = Ran result End 1 (take SCRIPT_LIMIT taken) old new
RunsBy fault_tail result taken old new = Ran result fault_tail 1 (take SCRIPT_LIMIT taken) old new
RunsBy Over result taken old new = Ran result Over 1 (take SCRIPT_LIMIT taken) old new
RunsBy More result taken old new = Ran result More 1 (take SCRIPT_LIMIT taken) old new ⊎ Unbegun result taken old new

-- The bytes that were taken, what came after them, and the run of just these.
pub record Headline (result : Status) (old new : Run) : Type 0 where
  pub bytes : List ℕ
  pub tail : Tail
  pub taken : Taken bytes tail old.source new.source
  pub ran : RunsBy tail result bytes (driven old) (driven new)
