-- The line that mounts by the options of a command line. It goes before those of the script, as line 0. (own)
use Rattle.std.specs.Prelude.{◌≡◌, ℕ, List, [], Option, Some, None, Ok}
use Rattle.std.specs.Option.{option_map}
use Rattle.zn_lines.specs.declared.runs.Tail.{Tail}
use Rattle.zn_lines.specs.Lines.{Line, Mount}
use Rattle.zn_lines.specs.Session.{line_step}
use Rattle.zn_lines.specs.Table.{Table}
use Rattle.zn_lines.specs.Transcript.{Transcript, transcript, tail_of, with_text}
use Rattle.zn_run.specs.Endings.{out_of_memory, host_fault}
use Rattle.zn_run.specs.Headline.{Closed, Headline}
use Rattle.zn_run.specs.States.{State, Run, run_of, driven}
use Rattle.zn_run.specs.Steps.{Stepped}
use Rattle.zn_run.specs.declared.machine.Step.{Step}
use Rattle.zn_run.specs.declared.machine.Step.TheVariants.{Done, BadLine, Broken, SinkFault, Memory as starved_step}
use Rattle.zn_run.specs.declared.status.Status.{Status}
use Rattle.zn_run.specs.declared.status.Status.TheVariants.{HostFault, WriteFault, Memory}

-- ---- transcripts

-- line 0: it mounts by the options, if there are some
abbrev pub line_zero : Option (List ℕ) → Option Line
line_zero options = option_map (λ text. Mount (Some text)) options

-- the transcript of a script behind line 0, whose reply stands before those of the script
abbrev pub transcript_behind : Option Line → List ℕ → List (List ℕ) → Tail → Table → List ℕ → Transcript
transcript_behind None given givens tail table script = transcript givens tail table script
transcript_behind (Some line) given givens tail table script =
    let zero = line_step given table line in with_text zero.text (transcript givens tail zero.table script)

-- the same of a whole script that its source tells, over a device that tells its bytes, so that nothing is given
abbrev pub transcript_with : Option (List ℕ) → Table → List ℕ → Transcript
transcript_with options table script = transcript_behind (line_zero options) [] [] (tail_of script) table script

-- ---- runs

-- what became of line 0, which is carried out as the lines of a script are
abbrev pub CarriesOut : Step → Option Line → State → State → Type 0
CarriesOut Done None old new = new ≡ old
CarriesOut _ None old new = ⊥
CarriesOut step (Some line) old new = Stepped step (Ok (Some line)) old new

-- no byte of the script is read, and the run has this last line
pub record EndsAtZero (result status : Status) (line : List ℕ) (middle new : Run) : Type 0 where
  pub source : new.source ≡ middle.source
  pub machine : new.machine ≡ middle.machine
  pub closed : Closed result status line middle.sink new.sink

-- the sink failed in the reply to line 0
pub record CutAtZero (result : Status) (middle new : Run) : Type 0 where
  pub status : result ≡ WriteFault
  pub same : new ≡ middle

-- what follows line 0, by what became of it: the run of the script, or its end
abbrev pub Follows : Step → Status → Run → Run → Type 0
Follows Done result middle new = Headline result middle new
Follows (BadLine column) result middle new = ⊥
Follows Broken result middle new = EndsAtZero result HostFault (host_fault 0) middle new
Follows SinkFault result middle new = CutAtZero result middle new
Follows starved_step result middle new = EndsAtZero result Memory out_of_memory middle new

-- A run of line 0, if there is one, and of the script that the source gives.
pub record RunsBehind (zero : Option Line) (result : Status) (old new : Run) : Type 0 where
  pub step : Step
  pub middle : State
  pub carries : CarriesOut step zero (driven old) middle
  pub follows : Follows step result (run_of middle.machine old.source middle.sink) new
