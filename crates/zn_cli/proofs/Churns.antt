-- What follows of a call of `churn` from what it wrote.
use Rattle.std.proofs.Common.{◌≡◌, ◌≢◌, ℕ, List, Some, Result, Ok, Err, refl, ap, subst, inl, inr}
use Rattle.zn_base.specs.States.{SourceState, SinkState}
use Rattle.zn_files.specs.States.{FilesState}
use Rattle.zn_lines.specs.declared.runs.Ending.{Ending}
use Rattle.zn_run.specs.Endings.{out_of_memory}
use Rattle.zn_run.specs.Headline.{Closes}
use Rattle.zn_run.specs.States.{CutOff, Added}
use Rattle.zn_run.specs.declared.status.Status.{Status}
use Rattle.zn_run.specs.declared.status.Status.TheVariants.{Done, Usage, Script, WriteFault, Memory}
use Rattle.zn_churn.specs.Churning.{Outcome, status_by, line_by}
use Rattle.zn_words.specs.Commands.{Churn}
use Rattle.zn_words.specs.declared.churning.Churn.{Churn as Generated}
use Rattle.zn_commands.specs.Outside.{Outside, IsQuiet}
use Rattle.zn_cli.specs.Churn.{outcome, ChurnEnds, ChurnRuns, ChurnCauses, IsChurned}
use Rattle.zn_cli.specs.Top.{StatusCauses, AcceptedRuns}
use Rattle.zn_cli.proofs.Calls.{causes_by}

-- ---- causes

cut_causes : (c : Generated) (entropy : List ℕ) {result : Status} {line : List ℕ} {old new : Outside} → result ≡ WriteFault
    → CutOff line old.sink new.sink → ChurnCauses c entropy result old new
cut_causes c entropy is cut = record {
  done = λ other. absurd (cc (is, other));
  script = λ other. absurd (cc (is, other));
  directory = λ other. cc (is, other);
  host = λ other. cc (is, other);
  source = λ other. cc (is, other);
  sink = λ other. cut.risen;
  memory = λ other. absurd (cc (is, other));
  quiet = λ quiet. absurd (quiet.no_write cut.risen);
}

starved_causes : (c : Generated) (entropy : List ℕ) {result : Status} {old new : Outside} → result ≡ Memory
    → Added out_of_memory old.sink new.sink → ChurnCauses c entropy result old new
starved_causes c entropy is added = record {
  done = λ other. absurd (cc (is, other));
  script = λ other. absurd (cc (is, other));
  directory = λ other. cc (is, other);
  host = λ other. cc (is, other);
  source = λ other. cc (is, other);
  sink = λ other. absurd (cc (is, other));
  memory = λ other. added;
  quiet = λ quiet. inr (inr is);
}

done_causes : (c : Generated) (entropy : List ℕ) {result : Status} {line : List ℕ} {old new : Outside} → new.files ≡ old.files
    → new.source ≡ old.source → result ≡ Done → Added line old.sink new.sink → ChurnCauses c entropy result old new
done_causes c entropy files source is added = record {
  done = λ other. record {
    files = ap (λ (f : FilesState). f.faults) files;
    reads = ap (λ (s : SourceState). s.faults) source;
    writes = added.kept;
  };
  script = λ other. absurd (cc (is, other));
  directory = λ other. cc (is, other);
  host = λ other. cc (is, other);
  source = λ other. cc (is, other);
  sink = λ other. absurd (cc (is, other));
  memory = λ other. absurd (cc (is, other));
  quiet = λ quiet. inl is;
}

bad_causes : (c : Generated) (entropy : List ℕ) (ending : Ending) {result : Status} {old new : Outside} → outcome c entropy ≡ Err ending
    → result ≡ Script → ChurnCauses c entropy result old new
bad_causes c entropy ending bad is = record {
  done = λ other. absurd (cc (is, other));
  script = λ other. (ending, bad);
  directory = λ other. cc (is, other);
  host = λ other. cc (is, other);
  source = λ other. cc (is, other);
  sink = λ other. absurd (cc (is, other));
  memory = λ other. absurd (cc (is, other));
  quiet = λ quiet. inr (inl is);
}

told_causes : (c : Generated) (entropy : List ℕ) (came : Result Outcome Ending) {result : Status} {old new : Outside} → new.files ≡ old.files
    → new.source ≡ old.source → outcome c entropy ≡ came → Closes result (status_by came) (line_by c.seed c.steps came) old.sink new.sink
    → ChurnCauses c entropy result old new
told_causes c entropy came files source comes (inr cut) = cut_causes c entropy cut.0 cut.1
told_causes c entropy (Ok sums) files source comes (inl told) = done_causes c entropy files source told.0 told.1
told_causes c entropy (Err ending) files source comes (inl told) = bad_causes c entropy ending comes told.0

causes : (c : Generated) (entropy : List ℕ) {result : Status} {old new : Outside} → new.files ≡ old.files → new.source ≡ old.source
    → ChurnEnds c entropy result old.sink new.sink → ChurnCauses c entropy result old new
causes c entropy files source (inl closed) = told_causes c entropy (outcome c entropy) files source refl closed.means
causes c entropy files source (inr closed) = starved_by closed.means
  where
    starved_by : {result : Status} {old new : Outside} → Closes result Memory out_of_memory old.sink new.sink → ChurnCauses c entropy result old new
    starved_by (inl told) = starved_causes c entropy told.0 told.1
    starved_by (inr cut) = cut_causes c entropy cut.0 cut.1

no_usage_by : (came : Result Outcome Ending) {result : Status} {line : List ℕ} {old new : SinkState} → Closes result (status_by came) line old new
    → result ≢ Usage
no_usage_by came (inr cut) is = cc (cut.0, is)
no_usage_by (Ok sums) (inl told) is = cc (told.0, is)
no_usage_by (Err ending) (inl told) is = cc (told.0, is)

starved_no_usage : {result : Status} {old new : SinkState} → Closes result Memory out_of_memory old new → result ≢ Usage
starved_no_usage (inl told) is = cc (told.0, is)
starved_no_usage (inr cut) is = cc (cut.0, is)

no_usage : (c : Generated) (entropy : List ℕ) {result : Status} {old new : SinkState} → ChurnEnds c entropy result old new → result ≢ Usage
no_usage c entropy (inl closed) = no_usage_by (outcome c entropy) closed.means
no_usage c entropy (inr closed) = starved_no_usage closed.means

pub churn_causes : {c : Generated} {entropy : List ℕ} {result : Status} {old new : Outside} → new.files ≡ old.files → new.source ≡ old.source
    → ChurnRuns c entropy result old.sink new.sink → StatusCauses (Some (Churn c)) entropy result old new
churn_causes {c = c} {entropy = entropy} files source runs =
    causes_by (no_usage c entropy runs.ends) (causes c entropy files source runs.ends)

-- ---- completeness

told_whole : (c : Generated) (entropy : List ℕ) {result : Status} {old new : Outside} → IsQuiet old new
    → Closes result (status_by (outcome c entropy)) (line_by c.seed c.steps (outcome c entropy)) old.sink new.sink
    → IsChurned c entropy result old.sink new.sink
told_whole c entropy quiet (inl told) = inl told
told_whole c entropy quiet (inr cut) = absurd (quiet.no_write cut.1.risen)

starved_whole : (c : Generated) (entropy : List ℕ) {result : Status} {old new : Outside} → IsQuiet old new
    → Closes result Memory out_of_memory old.sink new.sink → IsChurned c entropy result old.sink new.sink
starved_whole c entropy quiet (inl told) = inr told
starved_whole c entropy quiet (inr cut) = absurd (quiet.no_write cut.1.risen)

whole : (c : Generated) (entropy : List ℕ) {result : Status} {old new : Outside} → IsQuiet old new
    → ChurnEnds c entropy result old.sink new.sink → IsChurned c entropy result old.sink new.sink
whole c entropy quiet (inl closed) = told_whole c entropy quiet closed.means
whole c entropy quiet (inr closed) = starved_whole c entropy quiet closed.means

pub churn_accepted : {c : Generated} {entropy : List ℕ} {result : Status} {old new : Outside} → ChurnRuns c entropy result old.sink new.sink
    → AcceptedRuns (Some (Churn c)) entropy result old new
churn_accepted {c = c} {entropy = entropy} {result = result} {old = old} {new = new} runs = record {
  scratch = λ s script is. absurd (cc is);
  churn = λ other is quiet.
      let C : Generated → Type 0 = λ c. IsChurned c entropy result old.sink new.sink in
      subst C (cc is) (whole c entropy quiet runs.ends);
  run = λ dir options is. absurd (cc is);
}
