-- The command `churn`: a script that is made from a seed, on a new device in memory. (own)
use Rattle.std.specs.Prelude.{◌≡◌, ◌⊎◌, ℕ, List, Result, Err}
use Rattle.zn_base.specs.States.{SinkState}
use Rattle.zn_churn.specs.Churning.{Outcome, churned, status_by, line_by}
use Rattle.zn_commands.specs.Outside.{Outside, IsQuiet, IsCountKept}
use Rattle.zn_lines.specs.Scratch.{scratch_table}
use Rattle.zn_lines.specs.declared.runs.Ending.{Ending}
use Rattle.zn_lines.specs.declared.words.Scratch.{Scratch}
use Rattle.zn_run.specs.Endings.{out_of_memory}
use Rattle.zn_run.specs.Headline.{Closed}
use Rattle.zn_run.specs.States.{HasRisen, Added}
use Rattle.zn_run.specs.declared.status.Status.{Status}
use Rattle.zn_run.specs.declared.status.Status.TheVariants.{Done, Script, Directory, HostFault, ReadFault, WriteFault, Memory}
use Rattle.zn_words.specs.declared.churning.Churn.{Churn}

-- the device: two conventional zones and eight sequential ones, of 64 blocks each
abbrev pub churn_device : Scratch
churn_device = record { zones = 10; conv = 2; blocks = 64 }

-- what the script comes to, on the session that such a device begins
abbrev pub outcome : Churn → List ℕ → Result Outcome Ending
outcome c entropy = churned c.seed c.steps (scratch_table churn_device entropy)

-- one line is written: what the script comes to, or that memory was wanting
abbrev pub ChurnEnds : Churn → List ℕ → Status → SinkState → SinkState → Type 0
ChurnEnds c entropy result old new =
    Closed result (status_by (outcome c entropy)) (line_by c.seed c.steps (outcome c entropy)) old new
    ⊎ Closed result Memory out_of_memory old new

-- the same, as one fact
pub record ChurnRuns (c : Churn) (entropy : List ℕ) (result : Status) (old new : SinkState) : Type 0 where
  pub ends : ChurnEnds c entropy result old new

-- nothing is read, and the files are as they were
pub record OnSink (c : Churn) (entropy : List ℕ) (result : Status) (old new : Outside) : Type 0 where
  pub files : new.files ≡ old.files
  pub source : new.source ≡ old.source
  pub runs : ChurnRuns c entropy result old.sink new.sink

-- a line of the script is outside the grammar
abbrev pub IsBad : Churn → List ℕ → Type 0
IsBad c entropy = (ending : Ending) × (outcome c entropy ≡ Err ending)

-- when each status of `churn` comes
pub record ChurnCauses (c : Churn) (entropy : List ℕ) (result : Status) (old new : Outside) : Type 0 where
  pub done : result ≡ Done → IsCountKept old new
  pub script : result ≡ Script → IsBad c entropy
  pub directory : result ≡ Directory → ⊥
  pub host : result ≡ HostFault → ⊥
  pub source : result ≡ ReadFault → ⊥
  pub sink : result ≡ WriteFault → HasRisen old.sink.faults new.sink.faults
  -- nothing but this was written
  pub memory : result ≡ Memory → Added out_of_memory old.sink new.sink
  pub quiet : IsQuiet old new → (result ≡ Done) ⊎ (result ≡ Script) ⊎ (result ≡ Memory)

-- what the script comes to is written whole, with its status, or memory was wanting
abbrev pub IsChurned : Churn → List ℕ → Status → SinkState → SinkState → Type 0
IsChurned c entropy result old new =
    ((result ≡ status_by (outcome c entropy)) × Added (line_by c.seed c.steps (outcome c entropy)) old new)
    ⊎ ((result ≡ Memory) × Added out_of_memory old new)
