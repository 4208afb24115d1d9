-- What follows of a call of the top from what it did.
use Rattle.std.proofs.Common.{◌≡◌, ◌≢◌, ◌⊎◌, ℕ, true, List, [], ◌∷◌, fold, Option, Some, refl, ap, subst, ◌∙◌, inl, inr, arith}
use Rattle.zn_base.specs.States.{SinkState}
use Rattle.std.proofs.lemmas.Option.{same_Some}
use Rattle.zn_truth.specs.Fresh.{fresh_truth}
use Rattle.zn_stand.specs.declared.numbers.Geometry.{Geometry}
use Rattle.zn_files.specs.States.{FilesState}
use Rattle.zn_lines.specs.Lines.{Line}
use Rattle.zn_lines.specs.Scratch.{scratch_begun, scratch_lines, scratch_table}
use Rattle.zn_lines.specs.Table.{Table}
use Rattle.zn_lines.specs.declared.words.Scratch.{Scratch as Asked}
use Rattle.zn_lines.proofs.ToldLines.{line_still}
use Rattle.zn_run.specs.Endings.{out_of_memory}
use Rattle.zn_run.specs.Headline.{Closes}
use Rattle.zn_run.specs.Laws.{LacksMemory, RunCauses, IsFaultless, RanAll}
use Rattle.zn_run.specs.States.{Run, Streams, HasRisen, Added, run_of, driven, streams}
use Rattle.zn_run.specs.declared.status.Status.{Status}
use Rattle.zn_run.specs.declared.status.Status.TheVariants.{Done, Usage, Script, Memory}
use Rattle.zn_run.proofs.RunLaws.{statuses_have_causes, faultless_runs, whole_runs, unread_rest}
use Rattle.zn_words.specs.Commands.{Command, Scratch, Add, Mkfs, Running, Format}
use Rattle.zn_commands.specs.Outside.{Outside, IsQuiet}
use Rattle.zn_commands.specs.Running.{RunsWhole}
use Rattle.zn_cli.specs.Scratch.{after_line, scratch_machine}
use Rattle.zn_cli.specs.Top.{streams_in, Scratched, Unbegun, ScratchRuns, RanOut, ScratchCauses, CausesOf, StatusCauses, IsComplete, AcceptedRuns}

-- ---- the device that is asked for tells its bytes

pub begun_told : (s : Asked) (entropy : List ℕ) → (scratch_begun s entropy).world.truth.told ≡ true
unfolding fresh_truth
begun_told s entropy = refl

pub scratch_is : (s : Asked) (entropy : List ℕ) → scratch_table s entropy ≡ fold after_line (scratch_begun s entropy) scratch_lines
unfolding scratch_table
scratch_is s entropy = refl

folded_told : (table : Table) (lines : List Line) → table.world.truth.told ≡ true → (fold after_line table lines).world.truth.told ≡ true
folded_told table [] told = told
folded_told table (line ∷ lines) told = folded_told (after_line table line) lines (line_still [] table line ∙ told)

pub scratch_told : (s : Asked) (entropy : List ℕ) → (scratch_table s entropy).world.truth.told ≡ true
scratch_told s entropy =
    ap (λ (t : Table). t.world.truth.told) (scratch_is s entropy) ∙ folded_told (scratch_begun s entropy) scratch_lines (begun_told s entropy)

-- ---- a run on it

-- a count that did not move has not risen
never_risen : (n : ℕ) → n ≡ 0 → ¬ HasRisen 0 n
never_risen n none h = absurd (omega (arith, none, h.rose))

-- the two runs that a call on the device is between
abbrev begun : Asked → List ℕ → Streams → Run
begun s entropy old = run_of (scratch_machine s entropy) old.source old.sink

abbrev ended : {s : Asked} {entropy : List ℕ} {result : Status} {old new : Streams} → Scratched s entropy result old new → Run
ended {new = new} h = run_of h.machine new.source new.sink

causes_of : {s : Asked} {entropy : List ℕ} {result : Status} {old new : Streams} (h : Scratched s entropy result old new) → RunCauses result (begun s entropy old) (ended h)
causes_of {s = s} {entropy = entropy} {result = result} {old = old} h = statuses_have_causes result (begun s entropy old) (ended h) h.headline

quiet_run : {s : Asked} {entropy : List ℕ} {result : Status} {old new : Outside} (h : Scratched s entropy result (streams_in old) (streams_in new)) → IsQuiet old new → IsFaultless (begun s entropy (streams_in old)) (ended h)
quiet_run h quiet = record { no_read = quiet.no_read; no_write = quiet.no_write; no_break = never_risen h.machine.breaks h.whole }

only_memory : {old new : SinkState} → Closes Memory Memory out_of_memory old new → Added out_of_memory old new
only_memory (inl c) = c.1
only_memory (inr c) = absurd (cc c.0)

ran_out : (s : Asked) (entropy : List ℕ) (old : Streams) (new : Run) → LacksMemory (begun s entropy old) new → RanOut s entropy old (streams new)
ran_out s entropy old new (inl h) = inl (only_memory h.closed.means)
ran_out s entropy old new (inr (inl takes)) = absurd (cc takes)
ran_out s entropy old new (inr (inr starved)) = inr starved

-- ---- causes of a run in memory

starved_scratch : {s : Asked} {entropy : List ℕ} {result : Status} {old new : Outside} → Closes result Memory out_of_memory old.sink new.sink → ScratchCauses s entropy result old new
starved_scratch (inl c) = record {
  read = λ is. absurd (cc);
  done = λ is. absurd (cc);
  directory = λ is. cc;
  host = λ is. cc;
  early = λ is. absurd (cc);
  source = λ is. absurd (cc);
  sink = λ is. absurd (cc);
  memory = λ is. inl c.1;
  quiet = λ quiet. inr (inr c.0);
}
starved_scratch (inr c) = record {
  read = λ is. absurd (cc);
  done = λ is. absurd (cc);
  directory = λ is. cc;
  host = λ is. cc;
  early = λ is. absurd (cc);
  source = λ is. absurd (cc);
  sink = λ is. c.1.risen;
  memory = λ is. absurd (cc);
  quiet = λ quiet. absurd (quiet.no_write c.1.risen);
}

among : {result : Status} {X : Type 0} → (result ≡ Done) ⊎ (result ≡ Script) ⊎ ((result ≡ Memory) × X) → (result ≡ Done) ⊎ (result ≡ Script) ⊎ (result ≡ Memory)
among (inl is) = inl is
among (inr (inl is)) = inr (inl is)
among (inr (inr is)) = inr (inr is.0)

scratched_causes : {s : Asked} {entropy : List ℕ} {result : Status} {old new : Outside} → new.files ≡ old.files → Scratched s entropy result (streams_in old) (streams_in new) → ScratchCauses s entropy result old new
scratched_causes {s = s} {entropy = entropy} {result = result} {old = old} {new = new} files h =
    let c = causes_of h in
    record {
      read = λ is. (c.done is).0;
      done = λ is. record { files = ap (λ (f : FilesState). f.faults) files; reads = (c.done is).1.reads; writes = (c.done is).1.writes };
      directory = c.directory;
      host = λ is. never_risen h.machine.breaks h.whole (c.host_fault is);
      early = λ is. unread_rest result (begun s entropy (streams_in old)) (ended h) h.headline (inl is);
      source = c.read_fault;
      sink = c.write_fault;
      memory = λ is. ran_out s entropy (streams_in old) (ended h) (c.memory is);
      quiet = λ quiet. among (faultless_runs result (begun s entropy (streams_in old)) (ended h) h.headline (quiet_run h quiet));
    }

not_usage : {s : Asked} {entropy : List ℕ} {result : Status} {old new : Streams} → Scratched s entropy result old new → result ≢ Usage
not_usage h is = (causes_of h).usage is

scratch_causes_by : {s : Asked} {entropy : List ℕ} {result : Status} {old new : Outside} → new.files ≡ old.files
    → Scratched s entropy result (streams_in old) (streams_in new) ⊎ Unbegun result (streams_in old) (streams_in new) → ScratchCauses s entropy result old new
scratch_causes_by files (inl h) = scratched_causes files h
scratch_causes_by files (inr h) = starved_scratch h.closed.means

starved_no_usage : {result : Status} {old new : SinkState} → Closes result Memory out_of_memory old new → result ≢ Usage
starved_no_usage (inl c) is = cc
starved_no_usage (inr c) is = cc

scratch_no_usage : {s : Asked} {entropy : List ℕ} {result : Status} {old new : Streams} → Scratched s entropy result old new ⊎ Unbegun result old new → result ≢ Usage
scratch_no_usage (inl h) = not_usage h
scratch_no_usage (inr h) = starved_no_usage h.closed.means

-- ---- causes of a command

-- by its own causes
pub causes_by : {command : Command} {entropy : List ℕ} {result : Status} {old new : Outside} → result ≢ Usage → CausesOf command entropy result old new → StatusCauses (Some command) entropy result old new
causes_by {command = command} {entropy = entropy} {result = result} {old = old} {new = new} no_usage h =
    let C : Command → Type 0 = λ c. CausesOf c entropy result old new in
    record {
      usage = λ is. absurd (no_usage is);
      refused = λ is. absurd (cc);
      others = λ other is. subst C (same_Some _ _ is) h;
    }

pub scratch_causes : {s : Asked} {entropy : List ℕ} {result : Status} {old new : Outside} → new.files ≡ old.files → ScratchRuns s entropy result (streams_in old) (streams_in new)
    → StatusCauses (Some (Scratch s)) entropy result old new
scratch_causes files h = causes_by (scratch_no_usage h.means) (scratch_causes_by files h.means)

-- ---- completeness

complete_run : {s : Asked} {entropy : List ℕ} {result : Status} {old new : Streams} (h : Scratched s entropy result old new) (script : List ℕ)
    → RanAll script result (driven (begun s entropy old)) (driven (ended h)) ⊎ ((result ≡ Memory) × LacksMemory (begun s entropy old) (ended h)) → IsComplete s entropy script result old new
complete_run h script (inl r) = inl (r.ends, r.text)
complete_run {s = s} {entropy = entropy} {old = old} h script (inr m) = inr (m.0, ran_out s entropy old (ended h) m.1)

complete_starved : (entropy : List ℕ) {result : Status} {old new : Outside} (s : Asked) (script : List ℕ) → Closes result Memory out_of_memory old.sink new.sink → IsQuiet old new
    → IsComplete s entropy script result (streams_in old) (streams_in new)
complete_starved entropy s script (inl c) quiet = inr (c.0, inl c.1)
complete_starved entropy s script (inr c) quiet = absurd (quiet.no_write c.1.risen)

complete_by : (s : Asked) (entropy : List ℕ) {result : Status} {old new : Outside} → Scratched s entropy result (streams_in old) (streams_in new) ⊎ Unbegun result (streams_in old) (streams_in new)
    → (script : List ℕ) → old.source.left ≡ Some script → IsQuiet old new → IsComplete s entropy script result (streams_in old) (streams_in new)
complete_by s entropy {result = result} {old = old} (inl h) script told quiet =
    complete_run h script (whole_runs script result (begun s entropy (streams_in old)) (ended h) told (scratch_told s entropy) h.headline (quiet_run h quiet))
complete_by s entropy (inr h) script told quiet = complete_starved entropy s script h.closed.means quiet

-- a run in memory is complete
pub scratch_accepted : {s : Asked} {entropy : List ℕ} {result : Status} {old new : Outside} → ScratchRuns s entropy result (streams_in old) (streams_in new)
    → AcceptedRuns (Some (Scratch s)) entropy result old new
scratch_accepted {s = s} {entropy = entropy} {result = result} {old = old} {new = new} h = record {
  scratch = λ other script is told quiet.
      let C : Asked → Type 0 = λ s. IsComplete s entropy script result (streams_in old) (streams_in new) in
      subst C (cc is) (complete_by s entropy h.means script told quiet);
  churn = λ c is. absurd (cc is);
  run = λ dir options is. absurd (cc is);
}

-- other commands in turn
pub run_accepted : {dir : List ℕ} {options : Option (List ℕ)} {entropy : List ℕ} {result : Status} {old new : Outside} → RunsWhole options entropy result old new
    → AcceptedRuns (Some (Running dir options)) entropy result old new
run_accepted {options = options} {entropy = entropy} {result = result} {old = old} {new = new} h = record {
  scratch = λ s script is. absurd (cc is);
  churn = λ c is. absurd (cc is);
  run = λ other given is.
      let C : Option (List ℕ) → Type 0 = λ o. RunsWhole o entropy result old new in
      subst C (cc is) h;
}

pub add_accepted : {dir : List ℕ} {geo : Geometry} {entropy : List ℕ} {result : Status} {old new : Outside} → AcceptedRuns (Some (Add dir geo)) entropy result old new
add_accepted = record { scratch = λ s script is. absurd (cc is); churn = λ c is. absurd (cc is); run = λ dir options is. absurd (cc is) }

pub mkfs_accepted : {dir : List ℕ} {format : Format} {entropy : List ℕ} {result : Status} {old new : Outside} → AcceptedRuns (Some (Mkfs dir format)) entropy result old new
mkfs_accepted = record { scratch = λ s script is. absurd (cc is); churn = λ c is. absurd (cc is); run = λ dir options is. absurd (cc is) }
