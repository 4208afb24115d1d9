-- What the top call does. (own)
use Rattle.std.specs.Prelude.{◌≡◌, ◌⊎◌, ℕ, List, Option, Some, None, unwrap_or, codes}
use Rattle.zn_base.specs.States.{SourceState, SinkState}
use Rattle.zn_base.specs.Told.{IsAtEnd}
use Rattle.zn_model.specs.SuperBlock.{SuperBlock}
use Rattle.zn_model.specs.Formatting.{super_block_by}
use Rattle.zn_stand.specs.declared.numbers.Geometry.{Geometry}
use Rattle.zn_lines.specs.Scratch.{scratch_table}
use Rattle.zn_lines.specs.Session.{uuid_from}
use Rattle.zn_lines.specs.Transcript.{transcript_of, whole_text}
use Rattle.zn_lines.specs.declared.words.Scratch.{Scratch as Asked}
use Rattle.zn_run.specs.Endings.{out_of_memory}
use Rattle.zn_run.specs.Headline.{Closed, Headline}
use Rattle.zn_run.specs.Laws.{StarvedIn, EndsNear}
use Rattle.zn_run.specs.States.{MachineState, Streams, HasRisen, Added, run_of}
use Rattle.zn_run.specs.Statuses.{status_of}
use Rattle.zn_run.specs.declared.status.Status.{Status}
use Rattle.zn_run.specs.declared.status.Status.TheVariants.{Done, Usage, Script, Directory, HostFault, ReadFault, WriteFault, Memory}
use Rattle.zn_words.specs.Commands.{Command, Scratch, Churn, Add, Mkfs, Running, Format}
use Rattle.zn_commands.specs.Outside.{Outside, IsQuiet, IsCountKept}
use Rattle.zn_commands.specs.Adding.{Adds, AddCauses}
use Rattle.zn_commands.specs.Formatting.{Formats, FormatCauses}
use Rattle.zn_commands.specs.Running.{Runs, RunningCauses, RunsWhole}
use Rattle.zn_words.specs.declared.churning.Churn.{Churn as Generated}
use Rattle.zn_cli.specs.Churn.{OnSink, ChurnCauses, IsChurned}
use Rattle.zn_cli.specs.Scratch.{scratch_machine}

-- the last line of a call whose command line is bad
abbrev pub bad_command_line : List ℕ
bad_command_line = codes "zonefs: bad command line\n"

-- this source and this sink
abbrev pub streams_of : SourceState → SinkState → Streams
streams_of source sink = record { source = source; sink = sink }

-- the source and the sink of a command
abbrev pub streams_in : Outside → Streams
streams_in o = record { source = o.source; sink = o.sink }

-- A call that reads nothing and leaves the directory writes its last line, which then gives the status, or the sink
-- fails in it.
pub record Unread (result status : Status) (line : List ℕ) (old new : Outside) : Type 0 where
  pub files : new.files ≡ old.files
  pub source : new.source ≡ old.source
  pub closed : Closed result status line old.sink new.sink

-- The run of a script on the new device in memory that is asked for, which never breaks.
pub record Scratched (s : Asked) (entropy : List ℕ) (result : Status) (old new : Streams) : Type 0 where
  -- the machine in the end
  pub machine : MachineState
  pub whole : machine.breaks ≡ 0
  pub headline : Headline result (run_of (scratch_machine s entropy) old.source old.sink)
      (run_of machine new.source new.sink)

-- there was no memory for a device, and nothing is read
pub record Unbegun (result : Status) (old new : Streams) : Type 0 where
  pub source : new.source ≡ old.source
  pub closed : Closed result Memory out_of_memory old.sink new.sink

-- one of the two
pub record ScratchRuns (s : Asked) (entropy : List ℕ) (result : Status) (old new : Streams) : Type 0 where
  pub means : Scratched s entropy result old new ⊎ Unbegun result old new

-- a command that makes no call on the files
pub record OnStreams (s : Asked) (entropy : List ℕ) (result : Status) (old new : Outside) : Type 0 where
  pub files : new.files ≡ old.files
  pub runs : ScratchRuns s entropy result (streams_in old) (streams_in new)

-- a device is made, and the source isn't read
pub record OnEmpty (geo : Geometry) (result : Status) (old new : Outside) : Type 0 where
  pub source : new.source ≡ old.source
  pub adds : Adds geo result old.files new.files old.sink new.sink

-- the super block that a format writes: where none is given, with the identifier that the entropy makes
abbrev pub asked_block : Format → List ℕ → SuperBlock
asked_block format entropy = super_block_by format.label (unwrap_or format.uuid (uuid_from entropy)) format.opts

-- the device is formatted, and the source isn't read
pub record OnDevice (format : Format) (entropy : List ℕ) (result : Status) (old new : Outside) : Type 0 where
  pub source : new.source ≡ old.source
  pub formats : Formats (asked_block format entropy) format.force result old.files new.files old.sink new.sink

-- what a command does
abbrev pub Does : Command → List ℕ → Status → Outside → Outside → Type 0
Does (Scratch s) entropy result old new = OnStreams s entropy result old new
Does (Churn c) entropy result old new = OnSink c entropy result old new
Does (Add dir geo) entropy result old new = OnEmpty geo result old new
Does (Mkfs dir format) entropy result old new = OnDevice format entropy result old new
Does (Running dir options) entropy result old new = Runs options entropy result old new

-- By what the words ask for: nothing, or a command, unless there is no memory for the words.
abbrev pub CallMeans : Option Command → List ℕ → Status → Outside → Outside → Type 0
CallMeans None entropy result old new = Unread result Usage bad_command_line old new
CallMeans (Some command) entropy result old new =
    Does command entropy result old new ⊎ Unread result Memory out_of_memory old new

-- the same, as one fact
pub record Called (asked : Option Command) (entropy : List ℕ) (result : Status) (old new : Outside) : Type 0 where
  pub means : CallMeans asked entropy result old new

-- ---- causes

-- Memory was wanting: no reply was written, or the line that follows the replies that were written formats or mounts.
abbrev pub RanOut : Asked → List ℕ → Streams → Streams → Type 0
RanOut s entropy old new =
    Added out_of_memory old.sink new.sink ⊎ StarvedIn (run_of (scratch_machine s entropy) old.source old.sink) new

-- When each status of a run on a device in memory comes. The script's own faults are left.
pub record ScratchCauses (s : Asked) (entropy : List ℕ) (result : Status) (old new : Outside) : Type 0 where
  -- the script was read to its end, and no count rose
  pub read : result ≡ Done → IsAtEnd new.source.left
  pub done : result ≡ Done → IsCountKept old new
  pub directory : result ≡ Directory → ⊥
  pub host : result ≡ HostFault → ⊥
  -- the script ended the run at a line: from its first byte on the source has given few bytes
  pub early : result ≡ Script → EndsNear (run_of (scratch_machine s entropy) old.source old.sink) (streams_in new)
  pub source : result ≡ ReadFault → HasRisen old.source.faults new.source.faults
  pub sink : result ≡ WriteFault → HasRisen old.sink.faults new.sink.faults
  -- no reply was written, or the line behind those that were takes memory itself
  pub memory : result ≡ Memory → RanOut s entropy (streams_in old) (streams_in new)
  pub quiet : IsQuiet old new → (result ≡ Done) ⊎ (result ≡ Script) ⊎ (result ≡ Memory)

-- when each status of a command comes
abbrev pub CausesOf : Command → List ℕ → Status → Outside → Outside → Type 0
CausesOf (Scratch s) entropy result old new = ScratchCauses s entropy result old new
CausesOf (Churn c) entropy result old new = ChurnCauses c entropy result old new
CausesOf (Add dir geo) entropy result old new = AddCauses geo result old.files new.files old.sink new.sink
CausesOf (Mkfs dir format) entropy result old new =
    FormatCauses (asked_block format entropy) format.force result old.files new.files old.sink new.sink
CausesOf (Running dir options) entropy result old new = RunningCauses result old new

-- When each status comes: that of a bad command line exactly by the words, unless the sink fails; the others by the
-- command.
pub record StatusCauses (asked : Option Command) (entropy : List ℕ) (result : Status) (old new : Outside) : Type 0 where
  pub usage : result ≡ Usage → asked ≡ None
  pub refused : asked ≡ None → (result ≡ Usage) ⊎ ((result ≡ WriteFault) × HasRisen old.sink.faults new.sink.faults)
  pub others : (command : Command) → asked ≡ Some command → CausesOf command entropy result old new

-- ---- completeness

-- the whole text of this script's transcript is written, with the status of its ending, or memory was wanting
abbrev pub IsComplete : Asked → List ℕ → List ℕ → Status → Streams → Streams → Type 0
IsComplete s entropy script result old new =
    let t = transcript_of (scratch_table s entropy) script in
    ((result ≡ status_of t.ending) × Added (whole_text t) old.sink new.sink)
    ⊎ ((result ≡ Memory) × RanOut s entropy old new)

-- Accepted words, and for `scratch` and `run` a source that tells its script: where no call failed, the run is complete.
pub record AcceptedRuns (asked : Option Command) (entropy : List ℕ) (result : Status) (old new : Outside) : Type 0 where
  pub scratch : (s : Asked) (script : List ℕ) → asked ≡ Some (Scratch s) → old.source.left ≡ Some script
      → IsQuiet old new → IsComplete s entropy script result (streams_in old) (streams_in new)
  -- a script that is made needs no source
  pub churn : (c : Generated) → asked ≡ Some (Churn c) → IsQuiet old new → IsChurned c entropy result old.sink new.sink
  pub run : (dir : List ℕ) (options : Option (List ℕ)) → asked ≡ Some (Running dir options)
      → RunsWhole options entropy result old new
