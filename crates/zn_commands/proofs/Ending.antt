-- What follows of the last line that is due.
use Rattle.std.proofs.Common.{◌≡◌, ◌≢◌, ℕ, List, subst, inl, inr}
use Rattle.zn_base.specs.States.{SinkState}
use Rattle.zn_files.specs.States.{FilesState}
use Rattle.zn_run.specs.Endings.{out_of_memory, host_fault}
use Rattle.zn_run.specs.Headline.{Closes}
use Rattle.zn_run.specs.States.{HasRisen, Added, CutOff}
use Rattle.zn_run.specs.declared.status.Status.{Status}
use Rattle.zn_run.specs.declared.status.Status.TheVariants.{Done, Usage, Script, Directory, HostFault, ReadFault, WriteFault, Memory}
use Rattle.zn_commands.specs.Causes.{IsQuiet, EndCauses}

-- what a status that is due asks of its line and of the files
abbrev pub IsDue : Status → List ℕ → FilesState → FilesState → Type 0
IsDue Done line old new = Unit {0}
IsDue Usage line old new = ⊥
IsDue Script line old new = ⊥
IsDue Directory line old new = Unit {0}
IsDue HostFault line old new = HasRisen old.faults new.faults × (line ≡ host_fault 0)
IsDue ReadFault line old new = ⊥
IsDue WriteFault line old new = ⊥
IsDue Memory line old new = line ≡ out_of_memory

module _ (status : Status) (old new : FilesState) (before after : SinkState) where
  cut_causes : (line : List ℕ) → status ≡ WriteFault → CutOff line before after → EndCauses status old new before after
  cut_causes line is cut = record {
    host = λ h. absurd (cc);
    host_line = λ h. absurd (cc);
    sink = λ h. cut.risen;
    memory_line = λ h. absurd (cc);
    no_usage = λ h. cc;
    no_script = λ h. cc;
    no_read_fault = λ h. cc;
    quiet = λ q m. absurd (q.no_write cut.risen);
  }

  told_causes : (due : Status) (line : List ℕ) → IsDue due line old new → status ≡ due → Added line before after → EndCauses status old new before after
  told_causes Done line d is added = record {
    host = λ h. absurd (cc);
    host_line = λ h. absurd (cc);
    sink = λ h. absurd (cc);
    memory_line = λ h. absurd (cc);
    no_usage = λ h. cc;
    no_script = λ h. cc;
    no_read_fault = λ h. cc;
    quiet = λ q m. inl is;
  }
  told_causes Directory line d is added = record {
    host = λ h. absurd (cc);
    host_line = λ h. absurd (cc);
    sink = λ h. absurd (cc);
    memory_line = λ h. absurd (cc);
    no_usage = λ h. cc;
    no_script = λ h. cc;
    no_read_fault = λ h. cc;
    quiet = λ q m. inr is;
  }
  told_causes HostFault line d is added = record {
    host = λ h. d.0;
    host_line = λ h. subst (λ (l : List ℕ). Added l before after) d.1 added;
    sink = λ h. absurd (cc);
    memory_line = λ h. absurd (cc);
    no_usage = λ h. cc;
    no_script = λ h. cc;
    no_read_fault = λ h. cc;
    quiet = λ q m. absurd (q.no_call d.0);
  }
  told_causes Memory line d is added = record {
    host = λ h. absurd (cc);
    host_line = λ h. absurd (cc);
    sink = λ h. absurd (cc);
    memory_line = λ h. subst (λ (l : List ℕ). Added l before after) d added;
    no_usage = λ h. cc;
    no_script = λ h. cc;
    no_read_fault = λ h. cc;
    quiet = λ q m. absurd (m is);
  }
  told_causes Usage line d is added = absurd d
  told_causes Script line d is added = absurd d
  told_causes ReadFault line d is added = absurd d
  told_causes WriteFault line d is added = absurd d

  pub end_causes : (due : Status) (line : List ℕ) → IsDue due line old new → Closes status due line before after → EndCauses status old new before after
  end_causes due line d (inl c) = told_causes due line d c.0 c.1
  end_causes due line d (inr c) = cut_causes line c.0 c.1

  -- a status other than a write's fault is the one that is due, and its line is written
  pub written : (due : Status) (line : List ℕ) → Closes status due line before after → status ≢ WriteFault → (status ≡ due) × Added line before after
  written due line (inl c) other = c
  written due line (inr c) other = absurd (other c.0)

  -- where no call failed and memory sufficed, the command is done exactly under a condition that it shows where it is
  -- done, and that holds of no directory that doesn't fit
  pub exactly : (P : Type 0) → EndCauses status old new before after → (status ≡ Done → P) → (status ≡ Directory → P → ⊥) → IsQuiet old new before after → status ≢ Memory → (status ≡ Done → P) × (P → status ≡ Done)
  exactly P causes shows none q m = (shows, λ p. elim (causes.quiet q m) [ inl done ↦ done | inr other ↦ absurd (none other p) ])
