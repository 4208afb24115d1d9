-- What follows of a run that carries out line 0 first.
use Rattle.std.proofs.Common.{◌≡◌, ◌⊎◌, ℕ, true, List, [], ◌++◌, Option, Some, None, Ok, refl, ap, sym, subst, ◌∙◌, inl, inr}
use Rattle.std.proofs.lemmas.List.{append_assoc}
use Rattle.zn_base.specs.States.{SinkState}
use Rattle.zn_base.specs.Told.{IsAtEnd}
use Rattle.std.specs.Borrow.{Bor}
use Rattle.std.specs.Prelude.{option_copied}
use Rattle.zn_lines.specs.Lines.{Line, Mount}
use Rattle.zn_lines.specs.Session.{Stepped as Answer, line_step}
use Rattle.zn_lines.specs.Table.{Table}
use Rattle.zn_lines.specs.Transcript.{Transcript, transcript_of, tail_of, last_line, whole_text, with_text}
use Rattle.zn_lines.proofs.ToldLines.{line_still, line_same}
use Rattle.zn_run.specs.Endings.{out_of_memory, host_fault}
use Rattle.zn_run.specs.Headline.{Closes, Headline}
use Rattle.zn_run.specs.Laws.{IsKept, IsFaultless, RunCauses, RanAll, LacksMemory, EndsNear}
use Rattle.zn_run.specs.States.{State, Run, HasRisen, Added, run_of, driven, streams}
use Rattle.zn_run.specs.Statuses.{status_of}
use Rattle.zn_run.specs.Steps.{Stepped, Answered}
use Rattle.zn_run.specs.declared.machine.Step.{Step}
use Rattle.zn_run.specs.declared.machine.Step.TheVariants.{Done as done_step, BadLine, Broken, SinkFault, Memory as starved_step}
use Rattle.zn_run.specs.declared.status.Status.{Status}
use Rattle.zn_run.specs.declared.status.Status.TheVariants.{Done, Usage, Script, Directory, HostFault, ReadFault, WriteFault, Memory}
use Rattle.zn_run.proofs.LineLaws.{added_then}
use Rattle.zn_run.proofs.RunLaws.{statuses_have_causes, whole_runs, unread_rest}
use Rattle.zn_commands.specs.LineZero.{line_zero, transcript_behind, CarriesOut, Follows, RunsBehind}

-- ---- causes

-- when each status of such a run comes
pub record ZeroCauses (status : Status) (old new : Run) : Type 0 where
  pub done : status ≡ Done → IsAtEnd new.source.left × IsKept old new
  pub usage : status ≡ Usage → ⊥
  pub directory : status ≡ Directory → ⊥
  pub host_fault : status ≡ HostFault → HasRisen old.machine.breaks new.machine.breaks
  pub early : (status ≡ Script) ⊎ (status ≡ HostFault) → (new.source ≡ old.source) ⊎ ((start : Run) × (start.source ≡ old.source) × EndsNear start (streams new))
  pub read_fault : status ≡ ReadFault → HasRisen old.source.faults new.source.faults
  pub write_fault : status ≡ WriteFault → HasRisen old.sink.faults new.sink.faults

-- it is another status
pub neither : {status : Status} {X : Type 0} → (status ≡ Script → ⊥) → (status ≡ HostFault → ⊥) → (status ≡ Script) ⊎ (status ≡ HostFault) → X
neither a b (inl is) = absurd (a is)
neither a b (inr is) = absurd (b is)

-- the script is run from a place where no count has moved
script_causes : (status : Status) (old new : Run) (middle : State) → middle.machine.breaks ≡ old.machine.breaks → middle.sink.faults ≡ old.sink.faults
    → Headline status (run_of middle.machine old.source middle.sink) new → ZeroCauses status old new
script_causes status old new middle breaks writes h =
    let c : RunCauses status (run_of middle.machine old.source middle.sink) new = statuses_have_causes status (run_of middle.machine old.source middle.sink) new h in
    record {
      done = λ is. ((c.done is).0, record { reads = (c.done is).1.reads; writes = (c.done is).1.writes ∙ writes; breaks = (c.done is).1.breaks ∙ breaks });
      usage = c.usage;
      directory = c.directory;
      host_fault = λ is. subst (λ n. HasRisen n new.machine.breaks) breaks (c.host_fault is);
      early = λ is. inr (run_of middle.machine old.source middle.sink, refl, unread_rest status (run_of middle.machine old.source middle.sink) new h is);
      read_fault = c.read_fault;
      write_fault = λ is. subst (λ n. HasRisen n new.sink.faults) writes (c.write_fault is);
    }

-- the sink failed before the script
cut_causes : (status : Status) (old new : Run) → status ≡ WriteFault → HasRisen old.sink.faults new.sink.faults → ZeroCauses status old new
cut_causes status old new is risen = record {
  done = λ other. absurd (cc);
  usage = λ other. cc;
  directory = λ other. cc;
  host_fault = λ other. absurd (cc);
  early = neither (λ other. cc) (λ other. cc);
  read_fault = λ other. absurd (cc);
  write_fault = λ _. risen;
}

-- the run ends with a last line of this status before the script
ended_causes : (status meant : Status) (line : List ℕ) (old new : Run) (middle : State) → middle.sink ≡ old.sink → new.source ≡ old.source
    → (meant ≡ HostFault → HasRisen old.machine.breaks new.machine.breaks) → (meant ≡ HostFault) ⊎ (meant ≡ Memory)
    → Closes status meant line middle.sink new.sink → ZeroCauses status old new
ended_causes status meant line old new middle sink source risen among (inl c) = record {
  done = λ is. absurd (apart among (sym c.0 ∙ is));
  usage = λ is. apart_usage among (sym c.0 ∙ is);
  directory = λ is. apart_directory among (sym c.0 ∙ is);
  host_fault = λ is. risen (sym c.0 ∙ is);
  early = λ _. inl source;
  read_fault = λ is. absurd (apart_read among (sym c.0 ∙ is));
  write_fault = λ is. absurd (apart_write among (sym c.0 ∙ is));
}
  where
    apart : (meant ≡ HostFault) ⊎ (meant ≡ Memory) → meant ≡ Done → ⊥
    apart (inl a) b = cc
    apart (inr a) b = cc

    apart_usage : (meant ≡ HostFault) ⊎ (meant ≡ Memory) → meant ≡ Usage → ⊥
    apart_usage (inl a) b = cc
    apart_usage (inr a) b = cc

    apart_directory : (meant ≡ HostFault) ⊎ (meant ≡ Memory) → meant ≡ Directory → ⊥
    apart_directory (inl a) b = cc
    apart_directory (inr a) b = cc

    apart_read : (meant ≡ HostFault) ⊎ (meant ≡ Memory) → meant ≡ ReadFault → ⊥
    apart_read (inl a) b = cc
    apart_read (inr a) b = cc

    apart_write : (meant ≡ HostFault) ⊎ (meant ≡ Memory) → meant ≡ WriteFault → ⊥
    apart_write (inl a) b = cc
    apart_write (inr a) b = cc
ended_causes status meant line old new middle sink source risen among (inr c) =
    cut_causes status old new c.0 (subst (λ (s : SinkState). HasRisen s.faults new.sink.faults) sink c.1.risen)

causes_by : (step : Step) (zero : Option Line) (status : Status) (old new : Run) (middle : State) → CarriesOut step zero (driven old) middle
    → Follows step status (run_of middle.machine old.source middle.sink) new → ZeroCauses status old new
causes_by done_step None status old new middle same h =
    script_causes status old new middle (ap (λ (s : State). s.machine.breaks) same) (ap (λ (s : State). s.sink.faults) same) h
causes_by done_step (Some line) status old new middle carried h =
    script_causes status old new middle carried.means.means.breaks carried.means.means.reply.kept h
causes_by (BadLine column) None status old new middle carried h = absurd h
causes_by (BadLine column) (Some line) status old new middle carried h = absurd h
causes_by Broken None status old new middle carried h = absurd carried
causes_by Broken (Some line) status old new middle carried h =
    ended_causes status HostFault (host_fault 0) old new middle carried.means.sink h.source
    (λ _. subst (λ n. HasRisen old.machine.breaks n) (ap (λ m. m.breaks) (sym h.machine)) carried.means.risen) (inl refl) h.closed.means
causes_by SinkFault None status old new middle carried h = absurd carried
causes_by SinkFault (Some line) status old new middle carried h =
    cut_causes status old new h.status (subst (λ (r : Run). HasRisen old.sink.faults r.sink.faults) (sym h.same) carried.means.reply.risen)
causes_by starved_step None status old new middle carried h = absurd carried
causes_by starved_step (Some line) status old new middle carried h =
    ended_causes status Memory out_of_memory old new middle carried.means.sink h.source (λ is. absurd (cc)) (inr refl) h.closed.means

pub zero_causes : (zero : Option Line) (status : Status) (old new : Run) → RunsBehind zero status old new → ZeroCauses status old new
zero_causes zero status old new h = causes_by h.step zero status old new h.middle h.carries h.follows

-- ---- completeness

-- the transcript of line 0 and a script that the source tells, over a device that tells its bytes
abbrev pub told_transcript : Option Line → Table → List ℕ → Transcript
told_transcript zero table script = transcript_behind zero [] [] (tail_of script) table script

-- the whole text is written, the table is that of the transcript, and the status that of its ending
pub record RanBehind (zero : Option Line) (script : List ℕ) (status : Status) (old new : State) : Type 0 where
  pub ends : status ≡ status_of (told_transcript zero old.machine.table script).ending
  pub table : new.machine.table ≡ (told_transcript zero old.machine.table script).table
  pub spoilt : new.machine.spoilt ≡ old.machine.spoilt
  pub text : Added (whole_text (told_transcript zero old.machine.table script)) old.sink new.sink

abbrev Whole : Option Line → List ℕ → Status → Run → Run → Type 0
Whole zero script status old new = RanBehind zero script status (driven old) (driven new) ⊎ (status ≡ Memory)

-- from a place where no count has moved
faultless_from : (old new : Run) (middle : State) → middle.machine.breaks ≡ old.machine.breaks → middle.sink.faults ≡ old.sink.faults
    → IsFaultless old new → IsFaultless (run_of middle.machine old.source middle.sink) new
faultless_from old new middle breaks writes f = record {
  no_read = f.no_read;
  no_write = λ risen. f.no_write (subst (λ n. HasRisen n new.sink.faults) writes risen);
  no_break = λ risen. f.no_break (subst (λ n. HasRisen n new.machine.breaks) breaks risen);
}

whole_alone : (script : List ℕ) (status : Status) (old new : Run) (middle : State) → middle ≡ driven old
    → RanAll script status middle (driven new) ⊎ ((status ≡ Memory) × LacksMemory (run_of middle.machine old.source middle.sink) new) → Whole None script status old new
whole_alone script status old new middle same (inl r) =
    let R : State → Type 0 = λ s. RanAll script status s (driven new) in
    let all : RanAll script status (driven old) (driven new) = subst R same r in
    inl (record { ends = all.ends; table = all.table; spoilt = all.spoilt; text = all.text })
whole_alone script status old new middle same (inr m) = inr m.0

-- the whole text behind a reply
text_behind : (reply : List ℕ) (t : Transcript) → whole_text (with_text reply t) ≡ reply ++ whole_text t
text_behind reply t = append_assoc reply t.text (last_line t.ending)

whole_reply : (line : Line) (script : List ℕ) (status : Status) (old new : Run) (middle : State) → old.machine.table.world.truth.told ≡ true
    → Answered line (driven old) middle → RanAll script status middle (driven new) → RanBehind (Some line) script status (driven old) (driven new)
whole_reply line script status old new middle told a r =
    let zero = line_step [] old.machine.table line in
    let same : line_step a.given old.machine.table line ≡ zero = line_same a.given old.machine.table line told in
    let table : middle.machine.table ≡ zero.table = a.table ∙ ap (λ (s : Answer). s.table) same in
    let reply : Added zero.text old.sink middle.sink = subst (λ (s : Answer). Added s.text old.sink middle.sink) same a.reply in
    let t = transcript_of zero.table script in
    let more : Added (whole_text t) middle.sink new.sink = subst (λ (x : Table). Added (whole_text (transcript_of x script)) middle.sink new.sink) table r.text in
    record {
      ends = r.ends ∙ ap (λ (x : Table). status_of (transcript_of x script).ending) table;
      table = r.table ∙ ap (λ (x : Table). (transcript_of x script).table) table;
      spoilt = r.spoilt ∙ a.spoilt;
      text = subst (λ text. Added text old.sink new.sink) (sym (text_behind zero.text t)) (added_then reply more);
    }

whole_step : (line : Line) (script : List ℕ) (status : Status) (old new : Run) (middle : State) → old.machine.table.world.truth.told ≡ true → Answered line (driven old) middle
    → RanAll script status middle (driven new) ⊎ ((status ≡ Memory) × LacksMemory (run_of middle.machine old.source middle.sink) new) → Whole (Some line) script status old new
whole_step line script status old new middle told a (inl r) = inl (whole_reply line script status old new middle told a r)
whole_step line script status old new middle told a (inr m) = inr m.0

still_told : (line : Line) (old : Run) (middle : State) → old.machine.table.world.truth.told ≡ true → Answered line (driven old) middle → middle.machine.table.world.truth.told ≡ true
still_told line old middle told a =
    ap (λ (t : Table). t.world.truth.told) a.table ∙ line_still a.given old.machine.table line ∙ told

only_memory : {status : Status} {line : List ℕ} {before after : SinkState} → ¬ HasRisen before.faults after.faults → Closes status Memory line before after → status ≡ Memory
only_memory no_write (inl c) = c.0
only_memory no_write (inr c) = absurd (no_write c.1.risen)

whole_by : (step : Step) (zero : Option Line) (script : List ℕ) (status : Status) (old new : Run) (middle : State) → old.source.left ≡ Some script → old.machine.table.world.truth.told ≡ true
    → CarriesOut step zero (driven old) middle → Follows step status (run_of middle.machine old.source middle.sink) new → IsFaultless old new → Whole zero script status old new
whole_by done_step None script status old new middle left told same h f =
    let breaks : middle.machine.breaks ≡ old.machine.breaks = ap (λ (s : State). s.machine.breaks) same in
    let writes : middle.sink.faults ≡ old.sink.faults = ap (λ (s : State). s.sink.faults) same in
    whole_alone script status old new middle same
    (whole_runs script status (run_of middle.machine old.source middle.sink) new left (ap (λ (s : State). s.machine.table.world.truth.told) same ∙ told) h (faultless_from old new middle breaks writes f))
whole_by done_step (Some line) script status old new middle left told carried h f =
    let a = carried.means.means in
    whole_step line script status old new middle told a
    (whole_runs script status (run_of middle.machine old.source middle.sink) new left (still_told line old middle told a) h (faultless_from old new middle a.breaks a.reply.kept f))
whole_by (BadLine column) None script status old new middle left told carried h f = absurd h
whole_by (BadLine column) (Some line) script status old new middle left told carried h f = absurd h
whole_by Broken None script status old new middle left told carried h f = absurd carried
whole_by Broken (Some line) script status old new middle left told carried h f =
    absurd (f.no_break (subst (λ n. HasRisen old.machine.breaks n) (ap (λ m. m.breaks) (sym h.machine)) carried.means.risen))
whole_by SinkFault None script status old new middle left told carried h f = absurd carried
whole_by SinkFault (Some line) script status old new middle left told carried h f =
    absurd (f.no_write (subst (λ (r : Run). HasRisen old.sink.faults r.sink.faults) (sym h.same) carried.means.reply.risen))
whole_by starved_step None script status old new middle left told carried h f = absurd carried
whole_by starved_step (Some line) script status old new middle left told carried h f =
    inr (only_memory (λ risen. f.no_write (subst (λ (s : SinkState). HasRisen s.faults new.sink.faults) carried.means.sink risen)) h.closed.means)

pub whole_behind : (zero : Option Line) (script : List ℕ) (status : Status) (old new : Run) → old.source.left ≡ Some script → old.machine.table.world.truth.told ≡ true
    → RunsBehind zero status old new → IsFaultless old new → Whole zero script status old new
whole_behind zero script status old new left told h f = whole_by h.step zero script status old new h.middle left told h.carries h.follows f

-- ---- options of a command line

-- a line that was carried out for options that are given
pub carried_some : {step : Step} {old middle : State} (options : Option (Bor (List ℕ))) (text : Bor (List ℕ)) → options ≡ Some text → Stepped step (Ok (Some (Mount (Some text.now)))) old middle
    → CarriesOut step (line_zero (option_copied options)) old middle
carried_some {step = step} {old = old} {middle = middle} options text is s =
    subst (λ (o : Option (Bor (List ℕ))). CarriesOut step (line_zero (option_copied o)) old middle) (sym is) s

-- and nothing, where none are
pub carried_none : {old middle : State} (options : Option (Bor (List ℕ))) → options ≡ None → middle ≡ old → CarriesOut done_step (line_zero (option_copied options)) old middle
carried_none {old = old} {middle = middle} options is same =
    subst (λ (o : Option (Bor (List ℕ))). CarriesOut done_step (line_zero (option_copied o)) old middle) (sym is) same
