-- What a run of some bytes did: behind the lines before, and by its last line.
use Rattle.std.proofs.Common.{◌≡◌, ℕ, Bool, true, false, List, [], ◌++◌, take, length, length-append, Some, refl, ap, sym, subst, ◌∙◌, Ok, inl, inr, arith}
use Rattle.std.proofs.lemmas.Bool.{false≢true}
use Rattle.std.proofs.lemmas.List.{append-nil}
use Rattle.zn_base.specs.States.{SinkState, Writes}
use Rattle.zn_lines.specs.declared.limits.TheConstants.{SCRIPT_LIMIT}
use Rattle.zn_lines.specs.declared.runs.Tail.{Tail}
use Rattle.zn_lines.specs.declared.runs.Tail.TheVariants.{End, Fault as fault_tail, Over, More}
use Rattle.zn_lines.specs.declared.runs.Ending.{Ending}
use Rattle.zn_lines.specs.Transcript.{Transcript, stop, with_text, transcript_at, last_line}
use Rattle.zn_lines.proofs.ToldLines.{transcript_same}
use Rattle.zn_run.specs.Endings.{out_of_memory, host_fault}
use Rattle.zn_run.specs.Headline.{Closes, Closed, RanWhole, RanGiven, RanBroken, ComesTo, ToLast, RanTo, RanCut, in_reply, behind, in_last, RanMeans, Ran, RunsBy}
use Rattle.zn_run.specs.Progress.{CarriedOut, Reached, StoppedBy, IsRest, IsEnded, IsBroken}
use Rattle.zn_run.specs.States.{MachineState, State, state_of, Added, CutOff}
use Rattle.zn_run.specs.Script.{IsNear}
use Rattle.zn_run.specs.Statuses.{EndsBy, IsScriptFault, line_of}
use Rattle.zn_run.specs.Steps.{Unmoved}
use Rattle.zn_run.specs.declared.machine.Step.TheVariants.{SinkFault as cut_step, Memory as starved_step}
use Rattle.zn_run.specs.declared.status.Status.{Status}
use Rattle.zn_run.specs.declared.status.Status.TheVariants.{Done, Usage, Script, Directory, HostFault, ReadFault, WriteFault, Memory}
use Rattle.zn_run.proofs.EndLaws.{added_flushed}
use Rattle.zn_run.proofs.LineLaws.{added_then, reached_behind, stopped_behind, transcript_reached}

-- ---- whole transcripts

pub whole_along : {status : Status} {tail : Tail} {t t' : Transcript} {line : List ℕ} {old new : State} → t ≡ t' → RanWhole status tail t' line old new → RanWhole status tail t line old new
whole_along {status = status} {tail = tail} {line = line} {old = old} {new = new} e r =
    let F : Transcript → Type 0 = λ t. RanWhole status tail t line old new in subst F (sym e) r

-- where the device tells its bytes, what was given doesn't count, and nothing need be
given_by : {status : Status} {tail : Tail} {first : ℕ} {script line : List ℕ} {old new : State} (told : Bool) → old.machine.table.world.truth.told ≡ told → (givens : List (List ℕ))
    → RanWhole status tail (transcript_at givens tail old.machine.table first script) line old new → RanGiven status tail first script line old new
given_by {tail = tail} {first = first} {script = script} {old = old} true is givens r = record {
  givens = [];
  told = λ _. refl;
  whole = whole_along (sym (transcript_same givens tail old.machine.table first script is)) r;
}
given_by false is givens r = record { givens = givens; told = λ tells. absurd (false≢true (sym is ∙ tells)); whole = r }

pub given_of : {status : Status} {tail : Tail} {first : ℕ} {script line : List ℕ} {old new : State} (givens : List (List ℕ))
    → RanWhole status tail (transcript_at givens tail old.machine.table first script) line old new → RanGiven status tail first script line old new
given_of {old = old} givens r = given_by old.machine.table.world.truth.told refl givens r

-- ---- by the last line

-- the last line was to be written, and the machine is left alone
closes_by : {result : Status} {tail : Tail} {first : ℕ} {script : List ℕ} {old new : State} (status : Status) (to : ToLast status tail first script old new) → Closes result status to.line to.sink new.sink → RanMeans result tail first script old new
closes_by {tail = tail} {first = first} {script = script} {old = old} {new = new} status to (inr c) =
    let F : Status → Type 0 = λ s. RanMeans s tail first script old new in subst F (sym c.0) (in_last status to c.1)
closes_by {tail = tail} {first = first} {script = script} {old = old} {new = new} Done to (inl c) =
    let F : Status → Type 0 = λ s. RanMeans s tail first script old new in subst F (sym c.0) (record { to = to; written = c.1 })
closes_by Usage to (inl c) = absurd to.comes
closes_by {tail = tail} {first = first} {script = script} {old = old} {new = new} Script to (inl c) =
    let F : Status → Type 0 = λ s. RanMeans s tail first script old new in subst F (sym c.0) (record { to = to; written = c.1 })
closes_by Directory to (inl c) = absurd to.comes
closes_by {tail = tail} {first = first} {script = script} {old = old} {new = new} HostFault to (inl c) =
    let F : Status → Type 0 = λ s. RanMeans s tail first script old new in subst F (sym c.0) (record { to = to; written = c.1 })
closes_by {tail = tail} {first = first} {script = script} {old = old} {new = new} ReadFault to (inl c) =
    let F : Status → Type 0 = λ s. RanMeans s tail first script old new in subst F (sym c.0) (record { to = to; written = c.1 })
closes_by WriteFault to (inl c) = absurd to.comes
closes_by {tail = tail} {first = first} {script = script} {old = old} {new = new} Memory to (inl c) =
    let F : Status → Type 0 = λ s. RanMeans s tail first script old new in subst F (sym c.0) (record { to = to; written = c.1 })

pub closes : {result status : Status} {tail : Tail} {first : ℕ} {script line : List ℕ} {old : State} {machine : MachineState} {sink sink' : SinkState} → ComesTo status tail first script line old (state_of machine sink)
    → Closed result status line sink sink' → Ran result tail first script old (state_of machine sink')
closes {status = status} {line = line} {sink = sink} comes c = record { means = closes_by status (record { line = line; sink = sink; comes = comes }) c.means; passed = c.passed }

-- ---- behind the lines before

-- a place behind whole lines
abbrev standing : {old mid : State} {first number : ℕ} {script a : List ℕ} (rest : List ℕ) → script ≡ a ++ rest → CarriedOut old mid first a number → Reached old first script
standing {mid = mid} {number = number} {a = a} rest cut p = record { before = a; state = mid; number = number; rest = rest; cut = cut; lines = p }

given_behind : {status : Status} {tail : Tail} {old mid new : State} {first number : ℕ} {script a rest line : List ℕ} → script ≡ a ++ rest → CarriedOut old mid first a number
    → RanGiven status tail number rest line mid new → RanGiven status tail first script line old new
given_behind {tail = tail} {rest = rest} cut p r =
    given_of (p.lines.givens ++ r.givens)
    (whole_along (transcript_reached tail r.givens (standing rest cut p))
    (record {
      ends = r.whole.ends;
      last = r.whole.last;
      table = r.whole.table;
      breaks = r.whole.breaks ∙ p.breaks;
      spoilt = r.whole.spoilt ∙ p.spoilt;
      replies = added_then p.replies r.whole.replies;
    }))

comes_behind : (status : Status) (tail : Tail) {old mid : State} (new : State) {first number : ℕ} {script a : List ℕ} (rest line : List ℕ) → script ≡ a ++ rest → CarriedOut old mid first a number
    → ComesTo status tail number rest line mid new → ComesTo status tail first script line old new
comes_behind Done tail new rest line cut p r = given_behind cut p r
comes_behind Usage tail new rest line cut p r = absurd r
comes_behind Script tail new rest line cut p r = record {
  given = given_behind cut p r.given;
  ending = r.ending;
  last = r.last;
  reached = reached_behind cut p r.reached;
  numbered = r.numbered;
  near = r.near;
}
comes_behind Directory tail new rest line cut p r = absurd r
comes_behind HostFault tail new rest line cut p r = record { stopped = stopped_behind cut p r.stopped; last = r.last; near = r.near }
comes_behind ReadFault tail new rest line cut p r = given_behind cut p r
comes_behind WriteFault tail new rest line cut p r = absurd r
comes_behind Memory tail new rest line cut p r = record { stopped = stopped_behind cut p r.stopped; last = r.last }

abbrev last_behind : {status : Status} {tail : Tail} {old mid new : State} {first number : ℕ} {script a rest : List ℕ} → script ≡ a ++ rest → CarriedOut old mid first a number
    → ToLast status tail number rest mid new → ToLast status tail first script old new
last_behind {status = status} {tail = tail} {new = new} {rest = rest} cut p to = record { line = to.line; sink = to.sink; comes = comes_behind status tail (state_of new.machine to.sink) rest to.line cut p to.comes }

to_behind : {status : Status} {tail : Tail} {old mid new : State} {first number : ℕ} {script a rest : List ℕ} → script ≡ a ++ rest → CarriedOut old mid first a number
    → RanTo status tail number rest mid new → RanTo status tail first script old new
to_behind cut p r = record { to = last_behind cut p r.to; written = r.written }

cut_behind : {tail : Tail} {old mid new : State} {first number : ℕ} {script a rest : List ℕ} → script ≡ a ++ rest → CarriedOut old mid first a number
    → RanCut tail number rest mid new → RanCut tail first script old new
cut_behind cut p (in_reply s) = in_reply (stopped_behind cut p s)
cut_behind cut p (behind r still off) = behind (reached_behind cut p r) still off
cut_behind cut p (in_last status to off) = in_last status (last_behind cut p to) off

-- a run of the rest, behind the lines before
pub ran_behind : (status : Status) {tail : Tail} {old mid new : State} {first number : ℕ} {script a rest : List ℕ} → script ≡ a ++ rest → CarriedOut old mid first a number
    → Ran status tail number rest mid new → Ran status tail first script old new
ran_behind Done cut p r = record { means = to_behind cut p r.means; passed = r.passed }
ran_behind Usage cut p r = absurd r.means
ran_behind Script cut p r = record { means = to_behind cut p r.means; passed = r.passed }
ran_behind Directory cut p r = absurd r.means
ran_behind HostFault cut p r = record { means = to_behind cut p r.means; passed = r.passed }
ran_behind ReadFault cut p r = record { means = to_behind cut p r.means; passed = r.passed }
ran_behind WriteFault cut p r = record { means = cut_behind cut p r.means; passed = r.passed }
ran_behind Memory cut p r = record { means = to_behind cut p r.means; passed = r.passed }

-- ---- runs that the script, the host or want of memory ended

-- the transcript of a run that ends behind some replies
ended_is : {old : State} {first : ℕ} {script : List ℕ} (tail : Tail) (r : Reached old first script) (by : Ending) → transcript_at [] tail r.state.machine.table r.number r.rest ≡ stop r.state.machine.table by
    → let t : Transcript = record { text = r.lines.out; table = r.state.machine.table; ending = by } in transcript_at (r.lines.lines.givens ++ []) tail old.machine.table first script ≡ t
ended_is tail r by is =
    let T : List ℕ → Transcript = λ text. record { text = text; table = r.state.machine.table; ending = by } in
    transcript_reached tail [] r ∙ ap (with_text r.lines.out) is ∙ ap T (append-nil r.lines.out)

pub given_ended : (status : Status) (tail : Tail) {first : ℕ} {script : List ℕ} {old new : State} (by : Ending) (r : Reached old first script) → EndsBy status tail by
    → ((givens : List (List ℕ)) → transcript_at givens tail r.state.machine.table r.number r.rest ≡ stop r.state.machine.table by) → Unmoved r.state new → RanGiven status tail first script (last_line by) old new
given_ended status tail {old = old} by r ends is unmoved =
    let S : SinkState → Type 0 = λ s. Added r.lines.out old.sink s in
    given_of (r.lines.lines.givens ++ [])
    (whole_along (ended_is tail r by (is []))
    (record {
      ends = ends;
      last = refl;
      table = unmoved.table;
      breaks = unmoved.breaks ∙ r.lines.breaks;
      spoilt = unmoved.spoilt ∙ r.lines.spoilt;
      replies = subst S (sym unmoved.sink) r.lines.replies;
    }))

-- what is near for all of some bytes is so for a rest of them
pub near_rest : {old : State} {first : ℕ} {script : List ℕ} (tail : Tail) (r : Reached old first script) → IsNear tail script → IsNear tail r.rest
near_rest tail r near = omega (arith, near, ap length r.cut, length-append r.before r.rest)

-- a run that the script ended at a line
pub comes_script : (tail : Tail) {first : ℕ} {script : List ℕ} {old new : State} (by : Ending) (r : Reached old first script) → IsScriptFault by → line_of by ≡ Some r.number → IsNear tail script
    → ((givens : List (List ℕ)) → transcript_at givens tail r.state.machine.table r.number r.rest ≡ stop r.state.machine.table by) → Unmoved r.state new → ComesTo Script tail first script (last_line by) old new
comes_script tail by r is_fault numbered near is unmoved = record {
  given = given_ended Script tail by r is_fault is unmoved;
  ending = by;
  last = refl;
  reached = r;
  numbered = numbered;
  near = near_rest tail r near;
}

-- a run that one of the lines that a newline ends ended
pub ran_ended : {result : Status} {tail : Tail} {first : ℕ} {script : List ℕ} {old : State} {machine : MachineState} {sink sink' : SinkState} {by : Ending} → IsNear tail script → IsEnded by tail first script old (state_of machine sink)
    → Closed result Script (last_line by) sink sink' → Ran result tail first script old (state_of machine sink')
ran_ended {tail = tail} {by = by} near h c = closes (comes_script tail by h.reached h.is_fault h.numbered near h.ends h.unmoved) c

-- a run that a failure of the host ended in a line that a newline ends
pub ran_broken : {result : Status} {tail : Tail} {first number : ℕ} {script : List ℕ} {old : State} {machine : MachineState} {sink sink' : SinkState} → IsNear tail script → IsBroken number tail first script old (state_of machine sink)
    → Closed result HostFault (host_fault number) sink sink' → Ran result tail first script old (state_of machine sink')
ran_broken {tail = tail} {first = first} {script = script} {old = old} {machine = machine} {sink = sink} near h c =
    let b : RanBroken tail first script (host_fault _) old (state_of machine sink) = record { stopped = h.stopped; last = ap host_fault h.numbered; near = near_rest tail h.stopped.reached near } in closes b c

pub ran_starved : {result : Status} {tail : Tail} {first : ℕ} {script : List ℕ} {old : State} {machine : MachineState} {sink sink' : SinkState} → StoppedBy starved_step tail first script old (state_of machine sink)
    → Closed result Memory out_of_memory sink sink' → Ran result tail first script old (state_of machine sink')
ran_starved s c = closes (record { stopped = s; last = refl }) c

pub ran_cut : {tail : Tail} {first : ℕ} {script : List ℕ} {old new : State} → StoppedBy cut_step tail first script old new → Ran WriteFault tail first script old new
ran_cut s = record { means = in_reply s; passed = inl refl }

-- the sink failed behind the replies of the lines before
pub ran_unpassed : {tail : Tail} {first number : ℕ} {script a : List ℕ} {old : State} {machine : MachineState} {sink sink' : SinkState} (rest : List ℕ) → script ≡ a ++ rest → CarriedOut old (state_of machine sink) first a number → CutOff [] sink sink'
    → Ran WriteFault tail first script old (state_of machine sink')
ran_unpassed rest cut p off = record { means = behind (standing rest cut p) refl off; passed = inl refl }

-- a run of the bytes that were taken, up to the limit of a script
pub runs_by : (tail : Tail) {result : Status} {script : List ℕ} (bytes : List ℕ) {old new : State} → script ≡ take SCRIPT_LIMIT bytes → Ran result tail 1 script old new → RunsBy tail result bytes old new
runs_by End {result = result} bytes {old = old} {new = new} is r = let R : List ℕ → Type 0 = λ s. Ran result End 1 s old new in subst R is r
runs_by fault_tail {result = result} bytes {old = old} {new = new} is r = let R : List ℕ → Type 0 = λ s. Ran result fault_tail 1 s old new in subst R is r
runs_by Over {result = result} bytes {old = old} {new = new} is r = let R : List ℕ → Type 0 = λ s. Ran result Over 1 s old new in subst R is r
runs_by More {result = result} bytes {old = old} {new = new} is r = let R : List ℕ → Type 0 = λ s. Ran result More 1 s old new in inl (subst R is r)

-- lines that are carried out, and whose replies are passed on
pub rest_flushed : {T E : Type 0} {x : T} {old : State} {machine : MachineState} {sink sink' : SinkState} {first at number : ℕ} {script : List ℕ} → IsRest old (state_of machine sink) first script at number → Writes {E = E} (Ok x) [] sink sink'
    → IsRest old (state_of machine sink') first script at number
rest_flushed h f = record {
  within = h.within;
  numbered = h.numbered;
  one = h.one;
  lines = record {
    out = h.lines.out;
    lines = h.lines.lines;
    replies = added_flushed h.lines.replies f;
    breaks = h.lines.breaks;
    spoilt = h.lines.spoilt;
    steps = h.lines.steps;
    memory = h.lines.memory;
    goes_on = h.lines.goes_on;
  };
}
