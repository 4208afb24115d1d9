-- What a run changes, at one moment. (own)
use Rattle.std.specs.Prelude.{ℕ, ◌≤◌, ◌≡◌, Bool, List}
use Rattle.zn_base.specs.Causes.{Rose}
use Rattle.zn_base.specs.States.{SourceState, SinkState}
use Rattle.zn_base.specs.Told.{Grew, GrewToward}
use Rattle.zn_lines.specs.Table.{Table}

-- what carries out lines
pub record MachineState : Type 0 where
  -- the session that it is
  pub table : Table
  -- whether it carries out no further line
  pub over : Bool
  -- whether what it works on failed, or lacked memory, so that nothing is known of it
  pub spoilt : Bool
  -- how often what it works on has failed
  pub breaks : ℕ
  -- whether its lines take memory
  pub takes_memory : Bool
  -- how many lines it was given
  pub steps : ℕ

-- a machine and the sink of its replies
pub record State : Type 0 where
  pub machine : MachineState
  pub sink : SinkState

-- the state of this machine and this sink
abbrev pub state_of : MachineState → SinkState → State
state_of machine sink = record { machine = machine; sink = sink }

-- a source and a sink
pub record Streams : Type 0 where
  pub source : SourceState
  pub sink : SinkState

-- a machine, the source of its script and the sink of its replies
pub record Run : Type 0 where
  pub machine : MachineState
  pub source : SourceState
  pub sink : SinkState

-- the run of this machine, this source and this sink
abbrev pub run_of : MachineState → SourceState → SinkState → Run
run_of machine source sink = record { machine = machine; source = source; sink = sink }

-- the machine and the sink of a run
abbrev pub driven : Run → State
driven run = record { machine = run.machine; sink = run.sink }

-- the source and the sink of a run
abbrev pub streams : Run → Streams
streams run = record { source = run.source; sink = run.sink }

-- a count rose, and never falls
pub record HasRisen (before now : ℕ) : Type 0 where
  pub later : before ≤ now
  pub rose : Rose before now

-- all of a text was written, and no write failed
pub record Added (text : List ℕ) (old new : SinkState) : Type 0 where
  pub grew : Grew old.written new.written text
  pub kept : new.faults ≡ old.faults

-- a write failed in a text, of which a front was written
pub record CutOff (text : List ℕ) (old new : SinkState) : Type 0 where
  pub toward : GrewToward old.written new.written text
  pub risen : HasRisen old.faults new.faults
