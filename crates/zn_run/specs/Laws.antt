-- Laws of runs. (own)
use Rattle.std.specs.Prelude.{◌≡◌, ◌⊎◌, ◌≤◌, ◌+◌, ℕ, true, List, [], ◌++◌, length, take, Some}
use Rattle.zn_base.specs.Told.{IsAtEnd}
use Rattle.zn_lines.specs.declared.limits.TheConstants.{SCRIPT_LIMIT}
use Rattle.zn_lines.specs.declared.runs.Ending.{Ending}
use Rattle.zn_lines.specs.declared.runs.Tail.{Tail}
use Rattle.zn_lines.specs.declared.runs.Tail.TheVariants.{End, More}
use Rattle.zn_lines.specs.Lines.{Line}
use Rattle.zn_lines.specs.Memory.{takes_itself}
use Rattle.zn_lines.specs.Table.{Table}
use Rattle.zn_lines.specs.Transcript.{transcript, transcript_at, transcript_of, IsDecided, last_line, whole_text}
use Rattle.zn_run.specs.Endings.{out_of_memory, host_fault}
use Rattle.zn_run.specs.Headline.{Headline, Unrun}
use Rattle.zn_run.specs.Progress.{WholeLines, Reached, IsNext}
use Rattle.zn_run.specs.Script.{Taken}
use Rattle.zn_run.specs.States.{State, Streams, Run, HasRisen, Added, driven, streams}
use Rattle.zn_run.specs.Statuses.{status_of, line_of}
use Rattle.zn_run.specs.declared.status.Status.{Status}
use Rattle.zn_run.specs.declared.status.Status.TheVariants.{Done, Usage, Script, Directory, HostFault, ReadFault, WriteFault, Memory}

-- once a line has ended a run, no bytes behind it matter
abbrev pub DecidedStays : Type 0
DecidedStays =
    (givens : List (List ℕ)) (tail : Tail) (table : Table) (n : ℕ) (bytes more : List ℕ)
    → IsDecided (transcript_at givens More table n bytes).ending
    → transcript_at givens tail table n (bytes ++ more) ≡ transcript_at givens More table n bytes

-- the bytes of whole lines alone say their replies and the table after them
abbrev pub WholeLinesAlone : Type 0
WholeLinesAlone =
    (table0 table : Table) (first number : ℕ) (bytes out : List ℕ)
    → (lines : WholeLines table0 first bytes out table number)
    → (out ≡ (transcript_at lines.givens More table0 first bytes).text)
    × (table ≡ (transcript_at lines.givens More table0 first bytes).table)

-- no read and no write failed, and what the machine works on did not
pub record IsFaultless (old new : Run) : Type 0 where
  pub no_read : ¬ HasRisen old.source.faults new.source.faults
  pub no_write : ¬ HasRisen old.sink.faults new.sink.faults
  pub no_break : ¬ HasRisen old.machine.breaks new.machine.breaks

-- no count has moved
pub record IsKept (old new : Run) : Type 0 where
  pub reads : new.source.faults ≡ old.source.faults
  pub writes : new.sink.faults ≡ old.sink.faults
  pub breaks : new.machine.breaks ≡ old.machine.breaks

-- There was no memory for a line that takes some itself. The lines before it are carried out, and their replies and the
-- last line are all that is written; its own reply is due next.
pub record StarvedIn (old : Run) (new : Streams) : Type 0 where
  -- the bytes that were taken, and what came after them
  pub bytes : List ℕ
  pub tail : Tail
  pub taken : Taken bytes tail old.source new.source
  -- the lines before, and the line
  pub reached : Reached (driven old) 1 (take SCRIPT_LIMIT bytes)
  pub line : Line
  pub next : IsNext tail reached.state.machine.table reached.number reached.rest line
  pub takes : takes_itself line ≡ true
  pub written : Added (reached.lines.out ++ out_of_memory) old.sink new.sink

-- There was no memory: for the buffer, so that no line is carried out, for a line of a machine whose lines take
-- some, or for a line that takes some itself.
abbrev pub LacksMemory : Run → Run → Type 0
LacksMemory old new = Unrun Memory (driven old) (driven new) ⊎ (old.machine.takes_memory ≡ true) ⊎ StarvedIn old (streams new)

-- When each status of a run comes. The script's own faults are left.
pub record RunCauses (status : Status) (old new : Run) : Type 0 where
  -- the script was read to its end, and no count rose
  pub done : status ≡ Done → IsAtEnd new.source.left × IsKept old new
  pub usage : status ≡ Usage → ⊥
  pub directory : status ≡ Directory → ⊥
  pub host_fault : status ≡ HostFault → HasRisen old.machine.breaks new.machine.breaks
  pub read_fault : status ≡ ReadFault → HasRisen old.source.faults new.source.faults
  pub write_fault : status ≡ WriteFault → HasRisen old.sink.faults new.sink.faults
  pub memory : status ≡ Memory → LacksMemory old new

-- each status has its cause
abbrev pub StatusesHaveCauses : Type 0
StatusesHaveCauses = (status : Status) (old new : Run) → Headline status old new → RunCauses status old new

-- without faults a run carries out its script, or the script ends it, or there is no memory
abbrev pub FaultlessRuns : Type 0
FaultlessRuns =
    (status : Status) (old new : Run) → Headline status old new → IsFaultless old new
    → (status ≡ Done) ⊎ (status ≡ Script) ⊎ ((status ≡ Memory) × LacksMemory old new)

-- where the source tells its bytes, a run that is done has carried out all of them, for what the reads of its
-- lines gave, which is nothing where the device tells its bytes
abbrev pub DoneRuns : Type 0
DoneRuns =
    (script : List ℕ) (old new : Run) → old.source.left ≡ Some script → Headline Done old new
    → (givens : List (List ℕ)) × (old.machine.table.world.truth.told ≡ true → givens ≡ [])
    × (new.machine.table ≡ (transcript givens End old.machine.table script).table)
    × Added (transcript givens End old.machine.table script).text old.sink new.sink

-- the whole text of this script's transcript is written, the table is its own, and the status is that of its ending
pub record RanAll (script : List ℕ) (status : Status) (old new : State) : Type 0 where
  pub ends : status ≡ status_of (transcript_of old.machine.table script).ending
  pub table : new.machine.table ≡ (transcript_of old.machine.table script).table
  pub spoilt : new.machine.spoilt ≡ old.machine.spoilt
  pub text : Added (whole_text (transcript_of old.machine.table script)) old.sink new.sink

-- Where the source and the device tell their bytes, a run without faults did all that its script is due, unless there was
-- no memory.
abbrev pub WholeRuns : Type 0
WholeRuns =
    (script : List ℕ) (status : Status) (old new : Run)
    → old.source.left ≡ Some script → old.machine.table.world.truth.told ≡ true → Headline status old new → IsFaultless old new
    → RanAll script status (driven old) (driven new) ⊎ ((status ≡ Memory) × LacksMemory old new)

-- this last line tells the line with this number, at which the script ended the run, or in which the host failed
abbrev pub TellsLine : List ℕ → ℕ → Type 0
TellsLine line number =
    ((ending : Ending) × (line ≡ last_line ending) × (line_of ending ≡ Some number)) ⊎ (line ≡ host_fault number)

-- The last line tells the line that the run came to, and of that line and those behind it the source has given at most
-- 131,072 bytes. The lines before are carried out.
pub record EndsNear (old : Run) (new : Streams) : Type 0 where
  pub bytes : List ℕ
  pub tail : Tail
  pub taken : Taken bytes tail old.source new.source
  pub reached : Reached (driven old) 1 (take SCRIPT_LIMIT bytes)
  pub near : length bytes ≤ length reached.before + 131072
  pub line : List ℕ
  pub tells : TellsLine line reached.number

-- where the script or a failure of the host ends a run, the rest of the script is still unread
abbrev pub UnreadRest : Type 0
UnreadRest =
    (status : Status) (old new : Run) → Headline status old new → (status ≡ Script) ⊎ (status ≡ HostFault) → EndsNear old (streams new)
