-- What follows of a run on the device that lies in a directory.
use Rattle.std.proofs.Common.{◌≡◌, ◌⊎◌, ℕ, Bool, true, false, List, [], Option, Some, None, Ok, Err, IsSome, refl, ap, sym, subst, ◌∙◌, inl, inr}
use Rattle.std.specs.Prelude.{IfSome}
use Rattle.zn_truth.specs.Truth.{Truth}
use Rattle.zn_device.specs.States.{DeviceState}
use Rattle.zn_stand.specs.Directory.{Directory as Dir, Contents, contents}
use Rattle.zn_stand.specs.AtRest.{Cause, at_rest}
use Rattle.zn_files.specs.States.{FilesState, directory}
use Rattle.zn_backing.specs.declared.error.OpenError.{OpenError}
use Rattle.zn_backing.specs.declared.error.OpenError.TheVariants.{NotADevice, BadGeometry, MissingFile, BadZoneFile, ExtraName, TooManyActive, Fault, Memory as no_memory}
use Rattle.zn_backing.specs.Failures.{cause_of}
use Rattle.zn_backing.specs.Actives.{IsCause}
use Rattle.zn_zloop.specs.Opening.{Opened}
use Rattle.zn_model.specs.declared.handles.Handle.{Handle}
use Rattle.zn_fault.specs.FaultState.{faulty_state}
use Rattle.zn_lines.specs.Table.{Table, fresh_table, no_numbers}
use Rattle.zn_session.specs.SessionState.{SessionState, begun, machine_of}
use Rattle.zn_session.proofs.Numbers.{none_unkeyed}
use Rattle.zn_run.specs.Headline.{Closes}
use Rattle.zn_run.specs.Laws.{IsFaultless}
use Rattle.zn_run.specs.States.{MachineState, Run, HasRisen, Added, run_of, driven}
use Rattle.zn_run.specs.declared.status.Status.{Status}
use Rattle.zn_run.specs.declared.status.Status.TheVariants.{Directory, HostFault, WriteFault, Memory}
use Rattle.zn_commands.specs.Lines.{open_status, open_line}
use Rattle.zn_commands.specs.LineZero.{line_zero, transcript_with}
use Rattle.zn_commands.specs.Outside.{Outside, IsQuiet}
use Rattle.zn_commands.specs.Running.{opened_machine, RunsShut, RunsStarved, RunsOpened, Runs, WasShut, RunningCauses, Holds, IsWhole, RunsWhole}
use Rattle.zn_stand.proofs.DeviceRest.{stands as rest_stands}
use Rattle.zn_commands.proofs.StillTold.{told_behind}
use Rattle.zn_commands.proofs.ZeroLaws.{ZeroCauses, RanBehind, zero_causes, whole_behind, neither}

-- ---- causes

-- the sink failed in a last line
cut_causes : {status : Status} {old new : Outside} → status ≡ WriteFault → HasRisen old.sink.faults new.sink.faults → RunningCauses status old new
cut_causes is risen = record {
  read = λ other. absurd (cc);
  done = λ other. absurd (cc);
  usage = λ other. cc;
  directory = λ other. absurd (cc);
  host = λ other. absurd (cc);
  early = neither (λ other. cc) (λ other. cc);
  source = λ other. absurd (cc);
  sink = λ _. risen;
}

starved_causes : {status : Status} {old new : Outside} → status ≡ Memory → RunningCauses status old new
starved_causes is = record {
  read = λ other. absurd (cc);
  done = λ other. absurd (cc);
  usage = λ other. cc;
  directory = λ other. absurd (cc);
  host = λ other. absurd (cc);
  early = neither (λ other. cc) (λ other. cc);
  source = λ other. absurd (cc);
  sink = λ other. absurd (cc);
}

broken_causes : {status : Status} {old new : Outside} → status ≡ HostFault → HasRisen old.files.faults new.files.faults → new.source ≡ old.source → RunningCauses status old new
broken_causes is risen unread = record {
  read = λ other. absurd (cc);
  done = λ other. absurd (cc);
  usage = λ other. cc;
  directory = λ other. absurd (cc);
  host = λ _. risen;
  early = λ _. inl unread;
  source = λ other. absurd (cc);
  sink = λ other. absurd (cc);
}

refused_causes : {status : Status} {old new : Outside} → status ≡ Directory → WasShut old new → RunningCauses status old new
refused_causes is shut = record {
  read = λ other. absurd (cc);
  done = λ other. absurd (cc);
  usage = λ other. cc;
  directory = λ _. shut;
  host = λ other. absurd (cc);
  early = neither (λ other. cc) (λ other. cc);
  source = λ other. absurd (cc);
  sink = λ other. absurd (cc);
}

-- why a directory isn't opened, by the status that this has
pub data ShutIs (why : OpenError) : Type 0 where
  for_cause : open_status why ≡ Directory → IsCause why → ShutIs why
  for_fault : open_status why ≡ HostFault → why ≡ Fault → ShutIs why
  for_memory : open_status why ≡ Memory → ShutIs why

shut_is : (why : OpenError) → ShutIs why
shut_is NotADevice = for_cause refl refl
shut_is (BadGeometry line) = for_cause refl refl
shut_is (MissingFile kind z) = for_cause refl refl
shut_is (BadZoneFile kind z len) = for_cause refl refl
shut_is (ExtraName name) = for_cause refl refl
shut_is (TooManyActive count) = for_cause refl refl
shut_is Fault = for_fault refl refl
shut_is no_memory = for_memory refl

shut_written : {status : Status} {old new : Outside} (h : RunsShut status old new) → status ≡ open_status h.why → Added (open_line h.why) old.sink new.sink → ShutIs h.why → RunningCauses status old new
shut_written h is line (for_cause directory cause) =
    refused_causes (is ∙ directory) (record { why = h.why; is = cause; line = line; source = h.source; cause = h.shut.cause; rest = λ d told. h.shut.rest d told cause })
shut_written h is line (for_fault host fault) = broken_causes (is ∙ host) (record { later = h.shut.later; rose = h.shut.fault fault }) h.source
shut_written h is line (for_memory memory) = starved_causes (is ∙ memory)

shut_causes : {status : Status} {old new : Outside} (h : RunsShut status old new) → Closes status (open_status h.why) (open_line h.why) old.sink new.sink → RunningCauses status old new
shut_causes h (inl c) = shut_written h c.0 c.1 (shut_is h.why)
shut_causes h (inr c) = cut_causes c.0 c.1.risen

no_session : {status : Status} {old new : Outside} {line : List ℕ} → Closes status Memory line old.sink new.sink → RunningCauses status old new
no_session (inl c) = starved_causes c.0
no_session (inr c) = cut_causes c.0 c.1.risen

module _ {options : Option (List ℕ)} {entropy : List ℕ} {status : Status} {old new : Outside} (h : RunsOpened options entropy status old new) where
  abbrev before : Run
  before = run_of (opened_machine h.device entropy) old.source old.sink

  abbrev after : Run
  after = run_of h.machine new.source new.sink

  -- the breaks of the machine are the faults of the files
  breaks_before : h.device.breaks ≡ old.files.faults
  breaks_before = h.opened.breaks ∙ h.opened.count

  opened_causes : RunningCauses status old new
  opened_causes =
      let c : ZeroCauses status before after = zero_causes (line_zero options) status before after h.runs in
      record {
        read = λ is. (c.done is).0;
        done = λ is. record { files = sym h.lies.breaks ∙ (c.done is).1.breaks ∙ breaks_before; reads = (c.done is).1.reads; writes = (c.done is).1.writes };
        usage = c.usage;
        directory = λ is. absurd (c.directory is);
        host = λ is. subst (λ n. HasRisen old.files.faults n) h.lies.breaks (subst (λ n. HasRisen n h.machine.breaks) breaks_before (c.host_fault is));
        early = c.early;
        source = c.read_fault;
        sink = c.write_fault;
      }

  -- ---- completeness

  no_fault : IsQuiet old new → IsFaultless before after
  no_fault quiet = record {
    no_read = quiet.no_read;
    no_write = quiet.no_write;
    no_break = λ risen. quiet.no_break (subst (λ n. HasRisen old.files.faults n) h.lies.breaks (subst (λ n. HasRisen n h.machine.breaks) breaks_before risen));
  }

  -- where the device tells its bytes, the directory holds what the table does
  holds : h.machine.spoilt ≡ false → h.machine.table.world.truth.told ≡ true → Holds h.machine.table.world.truth new.files
  holds sound told = at (directory new.files) refl (sym (h.lies.told sound) ∙ told)
    where
      at : (o : Option Dir) → directory new.files ≡ o → IsSome (directory new.files) → Holds h.machine.table.world.truth new.files
      at None is some = absurd (cc)
      at (Some d) is some = record { d = d; told = is; stands = h.lies.stands d sound is }

causes_by : {options : Option (List ℕ)} {entropy : List ℕ} {status : Status} {old new : Outside} → RunsShut status old new ⊎ (RunsStarved status old new ⊎ RunsOpened options entropy status old new) → RunningCauses status old new
causes_by (inl shut) = shut_causes shut shut.closed.means
causes_by (inr (inl starved)) = no_session starved.closed.means
causes_by (inr (inr opened)) = opened_causes opened

-- each status of a run on a directory has its cause
pub run_causes : {options : Option (List ℕ)} {entropy : List ℕ} {status : Status} {old new : Outside} → Runs options entropy status old new → RunningCauses status old new
run_causes h = causes_by h.means

-- ---- completeness

-- a device at rest tells its bytes
rest_told : (c : Contents) (t : Truth) → at_rest c ≡ Ok t → t.told ≡ true
rest_told c t is = (rest_stands c t is).told

-- a cause that lies in the contents isn't there beside a device at rest
no_cause : (c : Contents) (t : Truth) (o : Option Cause) → at_rest c ≡ Ok t → IsSome o → IfSome o (λ cause. at_rest c ≡ Err cause) → ⊥
no_cause c t None is some cause = cc
no_cause c t (Some why) is some cause = let both : Ok t ≡ Err why = sym is ∙ cause in cc

whole_shut : {options : Option (List ℕ)} {entropy script : List ℕ} {status : Status} {old new : Outside} (d : Dir) (t : Truth) (h : RunsShut status old new) → directory old.files ≡ Some d → at_rest (contents d) ≡ Ok t → IsQuiet old new
    → Closes status (open_status h.why) (open_line h.why) old.sink new.sink → ShutIs h.why → IsWhole options t entropy script status old new ⊎ (status ≡ Memory)
whole_shut d t h told rest quiet (inr c) why = absurd (quiet.no_write c.1.risen)
whole_shut d t h told rest quiet (inl c) (for_cause directory cause) = absurd (no_cause (contents d) t (cause_of h.why) rest cause (h.shut.cause d told))
whole_shut d t h told rest quiet (inl c) (for_fault host fault) = absurd (quiet.no_break (record { later = h.shut.later; rose = h.shut.fault fault }))
whole_shut d t h told rest quiet (inl c) (for_memory memory) = inr (c.0 ∙ memory)

whole_starved : {status : Status} {old new : Outside} {line : List ℕ} → IsQuiet old new → Closes status Memory line old.sink new.sink → status ≡ Memory
whole_starved quiet (inl c) = c.0
whole_starved quiet (inr c) = absurd (quiet.no_write c.1.risen)

-- what a run behind line 0 left, as what is told of a run on the directory
whole_of : {options : Option (List ℕ)} {entropy script : List ℕ} {status : Status} {old new : Outside} (h : RunsOpened options entropy status old new) → h.device.world.truth.told ≡ true
    → RanBehind (line_zero options) script status (driven (before h)) (driven (after h)) ⊎ (status ≡ Memory) → IsWhole options h.device.world.truth entropy script status old new ⊎ (status ≡ Memory)
whole_of h told (inr memory) = inr memory
whole_of {options = options} {entropy = entropy} {script = script} {new = new} h told (inl r) =
    let tr = transcript_with options (fresh_table h.device.world.truth entropy) script in
    let kept : tr.table.world.truth.told ≡ true = told_behind (line_zero options) (fresh_table h.device.world.truth entropy) script told in
    inl (record {
      ends = r.ends;
      text = r.text;
      holds = subst (λ (x : Table). Holds x.world.truth new.files) r.table (holds h r.spoilt (ap (λ (x : Table). x.world.truth.told) r.table ∙ kept));
    })

whole_opened : {options : Option (List ℕ)} {entropy : List ℕ} (script : List ℕ) {status : Status} {old new : Outside} (d : Dir) (t : Truth) (h : RunsOpened options entropy status old new)
    → old.source.left ≡ Some script → directory old.files ≡ Some d → at_rest (contents d) ≡ Ok t → IsQuiet old new → IsWhole options t entropy script status old new ⊎ (status ≡ Memory)
whole_opened {options = options} {entropy = entropy} script {status = status} {old = old} {new = new} d t h left told rest quiet =
    let same : Ok h.device.world.truth ≡ Ok t = sym (h.opened.truth d told) ∙ rest in
    let is : h.device.world.truth ≡ t = cc in
    let bytes : h.device.world.truth.told ≡ true = rest_told (contents d) h.device.world.truth (h.opened.truth d told) in
    subst (λ (x : Truth). IsWhole options x entropy script status old new ⊎ (status ≡ Memory)) is
    (whole_of h bytes (whole_behind (line_zero options) script status (before h) (after h) left bytes h.runs (no_fault h quiet)))

whole_by : {options : Option (List ℕ)} {entropy : List ℕ} (script : List ℕ) {status : Status} {old new : Outside} (d : Dir) (t : Truth) → RunsShut status old new ⊎ (RunsStarved status old new ⊎ RunsOpened options entropy status old new)
    → old.source.left ≡ Some script → directory old.files ≡ Some d → at_rest (contents d) ≡ Ok t → IsQuiet old new → IsWhole options t entropy script status old new ⊎ (status ≡ Memory)
whole_by script d t (inl shut) left told rest quiet = whole_shut d t shut told rest quiet shut.closed.means (shut_is shut.why)
whole_by script d t (inr (inl starved)) left told rest quiet = inr (whole_starved quiet starved.closed.means)
whole_by script d t (inr (inr opened)) left told rest quiet = whole_opened script d t opened left told rest quiet

-- a directory that stands for no device isn't opened
not_rested : {device : DeviceState} {old new : FilesState} (d : Dir) (cause : Cause) → Opened device old new → directory old ≡ Some d → at_rest (contents d) ≡ Err cause → ⊥
not_rested {device = device} d cause opened told rest = let both : Ok device.world.truth ≡ Err cause = sym (opened.truth d told) ∙ rest in cc

refused_shut : {status : Status} {old new : Outside} (h : RunsShut status old new) → IsQuiet old new → Closes status (open_status h.why) (open_line h.why) old.sink new.sink → ShutIs h.why → (status ≡ Directory) ⊎ (status ≡ Memory)
refused_shut h quiet (inr c) why = absurd (quiet.no_write c.1.risen)
refused_shut h quiet (inl c) (for_cause directory cause) = inl (c.0 ∙ directory)
refused_shut h quiet (inl c) (for_fault host fault) = absurd (quiet.no_break (record { later = h.shut.later; rose = h.shut.fault fault }))
refused_shut h quiet (inl c) (for_memory memory) = inr (c.0 ∙ memory)

refused_by : {options : Option (List ℕ)} {entropy : List ℕ} {status : Status} {old new : Outside} (d : Dir) (cause : Cause) → RunsShut status old new ⊎ (RunsStarved status old new ⊎ RunsOpened options entropy status old new)
    → directory old.files ≡ Some d → at_rest (contents d) ≡ Err cause → IsQuiet old new → (status ≡ Directory) ⊎ (status ≡ Memory)
refused_by d cause (inl shut) told rest quiet = refused_shut shut quiet shut.closed.means (shut_is shut.why)
refused_by d cause (inr (inl starved)) told rest quiet = absurd (not_rested d cause starved.opened told rest)
refused_by d cause (inr (inr opened)) told rest quiet = absurd (not_rested d cause opened.opened told rest)

-- Where no call failed, a run is whole, or its directory is refused.
pub runs_whole : {options : Option (List ℕ)} {entropy : List ℕ} {status : Status} {old new : Outside} → Runs options entropy status old new → RunsWhole options entropy status old new
runs_whole h = record {
  whole = λ script d t left told rest quiet. whole_by script d t h.means left told rest quiet;
  refused = λ d cause told rest quiet. refused_by d cause h.means told rest quiet;
}

-- ---- the session that is begun

-- a machine on a device that was opened, with room for faults around it
begun_machine : (device faulty : DeviceState) (entropy : List ℕ) → faulty ≡ faulty_state device true [] None 0 → device.spoilt ≡ false → machine_of (begun faulty entropy) ≡ opened_machine device entropy
begun_machine device faulty entropy made sound =
    let M : List (Option Handle) → MachineState = λ n. record (opened_machine device entropy) { table = record (fresh_table device.world.truth entropy) { numbers = n }; spoilt = device.spoilt } in
    let S : Bool → MachineState = λ b. record (opened_machine device entropy) { spoilt = b } in
    ap (λ (f : DeviceState). machine_of (begun f entropy)) made ∙ ap M (none_unkeyed no_numbers refl) ∙ ap S sound

pub begun_session : (session : SessionState) (device faulty : DeviceState) (entropy : List ℕ) → session ≡ begun faulty entropy → faulty ≡ faulty_state device true [] None 0 → device.spoilt ≡ false
    → machine_of session ≡ opened_machine device entropy
begun_session session device faulty entropy begins made sound = ap machine_of begins ∙ begun_machine device faulty entropy made sound
