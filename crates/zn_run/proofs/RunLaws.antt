-- What follows of a run from what it ensures.
use Rattle.std.proofs.Common.{◌≡◌, ◌⊎◌, ℕ, ◌+◌, ◌-◌, ◌≤◌, true, false, List, [], ◌++◌, length, length-append, take, Option, Some, None, Result, Ok, Err, refl, ap, sym, subst, ◌∙◌, inl, inr, lt-ltb, le-ltb, arith}
use Rattle.std.specs.Prelude.{nat_lt}
use Rattle.std.proofs.lemmas.List.{append-nil, take-append-le, take_all, length-take}
use Rattle.std.proofs.Math.Seq.{take-append-add}
use Rattle.std.proofs.lemmas.Option.{same_Some}
use Rattle.zn_base.specs.States.{SourceState, SinkState}
use Rattle.zn_base.specs.Told.{Gave, IsAtEnd}
use Rattle.zn_base.proofs.ToldLaws.{all_given}
use Rattle.zn_lines.specs.declared.limits.TheConstants.{SCRIPT_LIMIT}
use Rattle.zn_lines.specs.declared.runs.Tail.{Tail}
use Rattle.zn_lines.specs.declared.runs.Tail.TheVariants.{End, Fault, Over, More}
use Rattle.zn_lines.specs.declared.runs.Ending.{Ending}
use Rattle.zn_lines.specs.declared.runs.Ending.TheVariants.{Finished, BadLine, LineTooLong, ScriptTooLong, ReadFailed, Unread}
use Rattle.zn_lines.specs.Lines.{Line}
use Rattle.zn_lines.specs.Memory.{takes_itself}
use Rattle.zn_lines.specs.Table.{Table}
use Rattle.zn_lines.specs.Transcript.{Transcript, transcript_from, pieces, transcript_at, transcript, transcript_of, tail_of, stop, IsDecided, last_line, whole_text}
use Rattle.zn_run.specs.Endings.{out_of_memory}
use Rattle.zn_run.specs.Headline.{Closes, RanGiven, ToLast, RanTo, RanCut, in_reply, behind, in_last, Unrun, Ran, RunsBy}
use Rattle.zn_run.specs.Laws.{WholeLinesAlone, IsKept, StarvedIn, LacksMemory, RunCauses, StatusesHaveCauses, IsFaultless, FaultlessRuns, DoneRuns, RanAll, WholeRuns, EndsNear, UnreadRest}
use Rattle.zn_run.specs.Progress.{IsNext, Reached}
use Rattle.zn_run.specs.Script.{Taken, IsNear}
use Rattle.zn_run.specs.States.{State, Run, state_of, driven, streams, HasRisen, Added}
use Rattle.zn_run.specs.Statuses.{EndsBy, IsScriptFault, status_of}
use Rattle.zn_run.specs.declared.status.Status.{Status}
use Rattle.zn_run.specs.declared.status.Status.TheVariants.{Done, Usage, Script, Directory, HostFault, ReadFault, WriteFault, Memory}
use Rattle.zn_run.proofs.DecidedLaws.{decided_stays, fault_decided}
use Rattle.zn_run.proofs.LineLaws.{added_then}

-- no bytes are no line
nothing_more : (table : Table) (n : ℕ) → transcript_at [] More table n [] ≡ stop table Unread
unfolding pieces transcript_from
nothing_more table n = refl

pub whole_lines_alone : WholeLinesAlone
whole_lines_alone table0 table first number bytes out w =
    let alone : transcript_at w.givens More table0 first bytes ≡ record { text = out ++ []; table = table; ending = Unread } =
    ap (λ gs. transcript_at gs More table0 first bytes) (sym (append-nil w.givens)) ∙ ap (transcript_at (w.givens ++ []) More table0 first) (sym (append-nil bytes)) ∙ w.follows More [] [] ∙ ap (λ (t : Transcript). record { text = out ++ t.text; table = t.table; ending = t.ending }) (nothing_more table number) in (
      sym (append-nil out) ∙ ap (λ (t : Transcript). t.text) (sym alone),
      ap (λ (t : Transcript). t.table) (sym alone),
    )

-- ---- counts

-- up to its last line no write failed
kept_to : (status : Status) {tail : Tail} {first : ℕ} {script : List ℕ} {old new : State} (to : ToLast status tail first script old new) → to.sink.faults ≡ old.sink.faults
kept_to Done to = to.comes.whole.replies.kept
kept_to Usage to = absurd to.comes
kept_to Script to = to.comes.given.whole.replies.kept
kept_to Directory to = absurd to.comes
kept_to HostFault to = ap (λ (s : SinkState). s.faults) to.comes.stopped.stepped.means.sink ∙ to.comes.stopped.reached.lines.replies.kept
kept_to ReadFault to = to.comes.whole.replies.kept
kept_to WriteFault to = absurd to.comes
kept_to Memory to = ap (λ (s : SinkState). s.faults) to.comes.stopped.stepped.means.sink ∙ to.comes.stopped.reached.lines.replies.kept

-- a run that a write ended counted that
cut_risen : {tail : Tail} {first : ℕ} {script : List ℕ} {old new : State} → RanCut tail first script old new → HasRisen old.sink.faults new.sink.faults
cut_risen {new = new} (in_reply s) =
    let R : ℕ → Type 0 = λ k. HasRisen k new.sink.faults in subst R s.reached.lines.replies.kept s.stepped.means.reply.risen
cut_risen {new = new} (behind r still cut) =
    let R : ℕ → Type 0 = λ k. HasRisen k new.sink.faults in subst R r.lines.replies.kept cut.risen
cut_risen {new = new} (in_last status to cut) =
    let R : ℕ → Type 0 = λ k. HasRisen k new.sink.faults in subst R (kept_to status to) cut.risen

-- a run that a failure of the host ended counted that
break_risen : {tail : Tail} {first : ℕ} {script : List ℕ} {old new : State} → RanTo HostFault tail first script old new → HasRisen old.machine.breaks new.machine.breaks
break_risen {new = new} r =
    let s = r.to.comes.stopped in
    let R : ℕ → Type 0 = λ k. HasRisen k new.machine.breaks in
    subst R s.reached.lines.breaks s.stepped.means.risen

-- the line of a reading
abbrev line_read : Line → Result (Option Line) ℕ → Line
line_read other (Ok (Some line)) = line
line_read other (Ok None) = other
line_read other (Err column) = other

one_line : {reading : Result (Option Line) ℕ} {line line' : Line} → reading ≡ Ok (Some line) → reading ≡ Ok (Some line') → line ≡ line'
one_line {line = line} is is' = ap (line_read line) (sym is ∙ is')

-- a line that takes memory itself had none
starved_in : {tail : Tail} {bytes : List ℕ} {old new : Run} → Taken bytes tail old.source new.source → (r : RanTo Memory tail 1 (take SCRIPT_LIMIT bytes) (driven old) (driven new))
    → takes_itself r.to.comes.stopped.stepped.means.line ≡ true → StarvedIn old (streams new)
starved_in {tail = tail} {bytes = bytes} {old = old} {new = new} taken r itself =
    let s = r.to.comes.stopped in
    let m = s.stepped.means in
    let N : Line → Type 0 = λ line. IsNext tail s.reached.state.machine.table s.reached.number s.reached.rest line in
    let L : List ℕ → Type 0 = λ line. Added line r.to.sink new.sink in
    let S : SinkState → Type 0 = λ sink. Added out_of_memory sink new.sink in
    record {
      bytes = bytes;
      tail = tail;
      taken = taken;
      reached = s.reached;
      line = m.line;
      next = subst N (one_line s.next.reads m.reads) s.next;
      takes = itself;
      written = added_then s.reached.lines.replies (subst S m.sink (subst L r.to.comes.last r.written));
    }

-- why there was no memory for a line
starved_by : {tail : Tail} {bytes : List ℕ} {old new : Run} → Taken bytes tail old.source new.source → RanTo Memory tail 1 (take SCRIPT_LIMIT bytes) (driven old) (driven new) → LacksMemory old new
starved_by taken r =
    let s = r.to.comes.stopped in
    elim s.stepped.means.takes [
      | inl takes ↦ inr (inl (sym s.reached.lines.memory ∙ takes))
      | inr itself ↦ inr (inr (starved_in taken r itself))
    ]

-- ---- causes

-- without memory for the script a run has only two statuses
not_unrun : {status : Status} {old new : SinkState} → (status ≡ Memory → ⊥) → (status ≡ WriteFault → ⊥) → Closes status Memory out_of_memory old new → ⊥
not_unrun no_memory no_fault (inl c) = no_memory c.0
not_unrun no_memory no_fault (inr c) = no_fault c.0

unrun_risen : {old new : SinkState} → Closes WriteFault Memory out_of_memory old new → HasRisen old.faults new.faults
unrun_risen (inl c) = absurd (cc c.0)
unrun_risen (inr c) = c.1.risen

done_by : (tail : Tail) {bytes : List ℕ} (old new : Run) → Taken bytes tail old.source new.source → RunsBy tail Done bytes (driven old) (driven new) → IsAtEnd new.source.left × IsKept old new
done_by End old new t h = (t.holds.1, record { reads = t.holds.2; writes = h.means.written.kept ∙ h.means.to.comes.whole.replies.kept; breaks = h.means.to.comes.whole.breaks })
done_by Fault old new t h = absurd (let e : Fault ≡ End = h.means.to.comes.whole.ends.0 in cc)
done_by Over old new t h = absurd (let e : Over ≡ End = h.means.to.comes.whole.ends.0 in cc)
done_by More old new t (inl r) = absurd (let e : More ≡ End = r.means.to.comes.whole.ends.0 in cc)
done_by More old new t (inr u) = absurd (not_unrun (λ e. cc) (λ e. cc) u.unrun.closed.means)

never_usage : (tail : Tail) (bytes : List ℕ) (old new : Run) → RunsBy tail Usage bytes (driven old) (driven new) → ⊥
never_usage End bytes old new h = h.means
never_usage Fault bytes old new h = h.means
never_usage Over bytes old new h = h.means
never_usage More bytes old new (inl r) = r.means
never_usage More bytes old new (inr u) = not_unrun (λ e. cc) (λ e. cc) u.unrun.closed.means

never_directory : (tail : Tail) (bytes : List ℕ) (old new : Run) → RunsBy tail Directory bytes (driven old) (driven new) → ⊥
never_directory End bytes old new h = h.means
never_directory Fault bytes old new h = h.means
never_directory Over bytes old new h = h.means
never_directory More bytes old new (inl r) = r.means
never_directory More bytes old new (inr u) = not_unrun (λ e. cc) (λ e. cc) u.unrun.closed.means

host_by : (tail : Tail) (bytes : List ℕ) (old new : Run) → RunsBy tail HostFault bytes (driven old) (driven new) → HasRisen old.machine.breaks new.machine.breaks
host_by End bytes old new h = break_risen h.means
host_by Fault bytes old new h = break_risen h.means
host_by Over bytes old new h = break_risen h.means
host_by More bytes old new (inl r) = break_risen r.means
host_by More bytes old new (inr u) = absurd (not_unrun (λ e. cc) (λ e. cc) u.unrun.closed.means)

read_by : (tail : Tail) {bytes : List ℕ} (old new : Run) → Taken bytes tail old.source new.source → RunsBy tail ReadFault bytes (driven old) (driven new) → HasRisen old.source.faults new.source.faults
read_by End old new t h = absurd (let e : End ≡ Fault = h.means.to.comes.whole.ends.0 in cc)
read_by Fault old new t h = t.holds.1
read_by Over old new t h = absurd (let e : Over ≡ Fault = h.means.to.comes.whole.ends.0 in cc)
read_by More old new t (inl r) = absurd (let e : More ≡ Fault = r.means.to.comes.whole.ends.0 in cc)
read_by More old new t (inr u) = absurd (not_unrun (λ e. cc) (λ e. cc) u.unrun.closed.means)

write_by : (tail : Tail) (bytes : List ℕ) (old new : Run) → RunsBy tail WriteFault bytes (driven old) (driven new) → HasRisen old.sink.faults new.sink.faults
write_by End bytes old new h = cut_risen h.means
write_by Fault bytes old new h = cut_risen h.means
write_by Over bytes old new h = cut_risen h.means
write_by More bytes old new (inl r) = cut_risen r.means
write_by More bytes old new (inr u) = unrun_risen u.unrun.closed.means

memory_by : (tail : Tail) {bytes : List ℕ} (old new : Run) → Taken bytes tail old.source new.source → RunsBy tail Memory bytes (driven old) (driven new) → LacksMemory old new
memory_by End old new t h = starved_by t h.means
memory_by Fault old new t h = starved_by t h.means
memory_by Over old new t h = starved_by t h.means
memory_by More old new t (inl r) = starved_by t r.means
memory_by More old new t (inr u) = inl u.unrun

pub statuses_have_causes : StatusesHaveCauses
statuses_have_causes status old new h =
    let R : Status → Type 0 = λ s. RunsBy h.tail s h.bytes (driven old) (driven new) in
    record {
      done = λ is. done_by h.tail old new h.taken (subst R is h.ran);
      usage = λ is. never_usage h.tail h.bytes old new (subst R is h.ran);
      directory = λ is. never_directory h.tail h.bytes old new (subst R is h.ran);
      host_fault = λ is. host_by h.tail h.bytes old new (subst R is h.ran);
      read_fault = λ is. read_by h.tail old new h.taken (subst R is h.ran);
      write_fault = λ is. write_by h.tail h.bytes old new (subst R is h.ran);
      memory = λ is. memory_by h.tail old new h.taken (subst R is h.ran);
    }

-- ---- runs without faults

abbrev Faultless : Status → Run → Run → Type 0
Faultless status old new = (status ≡ Done) ⊎ (status ≡ Script) ⊎ ((status ≡ Memory) × LacksMemory old new)

faultless_by : (status : Status) (old new : Run) → RunCauses status old new → IsFaultless old new → Faultless status old new
faultless_by Done old new c f = inl refl
faultless_by Usage old new c f = absurd (c.usage refl)
faultless_by Script old new c f = inr (inl refl)
faultless_by Directory old new c f = absurd (c.directory refl)
faultless_by HostFault old new c f = absurd (f.no_break (c.host_fault refl))
faultless_by ReadFault old new c f = absurd (f.no_read (c.read_fault refl))
faultless_by WriteFault old new c f = absurd (f.no_write (c.write_fault refl))
faultless_by Memory old new c f = inr (inr (refl, c.memory refl))

pub faultless_runs : FaultlessRuns
faultless_runs status old new h f = faultless_by status old new (statuses_have_causes status old new h) f

-- ---- runs that are done

abbrev DoneOf : List ℕ → State → State → Type 0
DoneOf script old new =
    (givens : List (List ℕ)) × (old.machine.table.world.truth.told ≡ true → givens ≡ [])
    × (new.machine.table ≡ (transcript givens End old.machine.table script).table) × Added (transcript givens End old.machine.table script).text old.sink new.sink

ran_done : {tail : Tail} {script bytes : List ℕ} {old new : State} → script ≡ bytes → Ran Done tail 1 (take SCRIPT_LIMIT bytes) old new → DoneOf script old new
ran_done {tail = tail} {script = script} {bytes = bytes} {old = old} {new = new} all h =
    let givens = h.means.to.comes.givens in
    let m = h.means.to.comes.whole in
    let t : Transcript = transcript givens tail old.machine.table bytes in
    let same : t ≡ transcript givens End old.machine.table script = ap (λ tail. transcript givens tail old.machine.table bytes) m.ends.0 ∙ ap (transcript givens End old.machine.table) (sym all) in
    let none : h.means.to.line ≡ [] = m.last ∙ ap last_line m.ends.1 in
    let A : List ℕ → Type 0 = λ text. Added text old.sink new.sink in (
      givens,
      h.means.to.comes.told,
      m.table ∙ ap (λ (x : Transcript). x.table) same,
      subst A (ap (λ line. t.text ++ line) none ∙ append-nil t.text ∙ ap (λ (x : Transcript). x.text) same) (added_then m.replies h.means.written),
    )

runs_done : (tail : Tail) {script bytes : List ℕ} (old new : Run) → old.source.left ≡ Some script → Taken bytes tail old.source new.source → RunsBy tail Done bytes (driven old) (driven new) → DoneOf script (driven old) (driven new)
runs_done End {script = script} {bytes = bytes} old new told t h = ran_done (all_given old.source.left new.source.left script bytes told t.gave t.holds.1) h
runs_done Fault old new told t h = absurd (let e : Fault ≡ End = h.means.to.comes.whole.ends.0 in cc)
runs_done Over old new told t h = absurd (let e : Over ≡ End = h.means.to.comes.whole.ends.0 in cc)
runs_done More old new told t (inl r) = absurd (let e : More ≡ End = r.means.to.comes.whole.ends.0 in cc)
runs_done More old new told t (inr u) = absurd (not_unrun (λ e. cc) (λ e. cc) u.unrun.closed.means)

pub done_runs : DoneRuns
done_runs script old new told h = runs_done h.tail old new told h.taken h.ran

-- ---- runs of a script that is told

status_by : (status : Status) (tail : Tail) (by : Ending) → EndsBy status tail by → status ≡ status_of by
status_by Done tail by ends = ap status_of (sym ends.1)
status_by Usage tail by ends = absurd ends
status_by Script tail Finished ends = absurd ends
status_by Script tail (BadLine n column) ends = refl
status_by Script tail (LineTooLong n) ends = refl
status_by Script tail (ScriptTooLong n) ends = refl
status_by Script tail ReadFailed ends = absurd ends
status_by Script tail Unread ends = absurd ends
status_by Directory tail by ends = absurd ends
status_by HostFault tail by ends = absurd ends
status_by ReadFault tail by ends = ap status_of (sym ends.1)
status_by WriteFault tail by ends = absurd ends
status_by Memory tail by ends = absurd ends

ran_all : {status : Status} {tail : Tail} {script bytes : List ℕ} {old new : State} → transcript_at [] tail old.machine.table 1 bytes ≡ transcript_of old.machine.table script → old.machine.table.world.truth.told ≡ true
    → (to : ToLast status tail 1 bytes old new) → RanGiven status tail 1 bytes to.line old (state_of new.machine to.sink) → Added to.line to.sink new.sink → RanAll script status old new
ran_all {status = status} {tail = tail} {script = script} {bytes = bytes} {old = old} {new = new} same told to r more =
    let t : Transcript = transcript_at r.givens tail old.machine.table 1 bytes in
    let given : t ≡ transcript_of old.machine.table script = ap (λ gs. transcript_at gs tail old.machine.table 1 bytes) (r.told told) ∙ same in
    let A : List ℕ → Type 0 = λ text. Added text old.sink new.sink in
    record {
      ends = status_by status tail t.ending r.whole.ends ∙ ap (λ (t : Transcript). status_of t.ending) given;
      table = r.whole.table ∙ ap (λ (t : Transcript). t.table) given;
      spoilt = r.whole.spoilt;
      text = subst A (ap (λ text. t.text ++ text) r.whole.last ∙ ap whole_text given) (added_then r.whole.replies more);
    }

abbrev Whole : List ℕ → Status → Run → Run → Type 0
Whole script status old new = RanAll script status (driven old) (driven new) ⊎ ((status ≡ Memory) × LacksMemory old new)

whole_by : {status : Status} {tail : Tail} {script bytes : List ℕ} (old new : Run) → transcript_at [] tail old.machine.table 1 bytes ≡ transcript_of old.machine.table script → old.machine.table.world.truth.told ≡ true
    → Ran status tail 1 bytes (driven old) (driven new) → Faultless status old new → Whole script status old new
whole_by {tail = tail} {script = script} {bytes = bytes} old new same told h (inl e) =
    let R : Status → Type 0 = λ s. Ran s tail 1 bytes (driven old) (driven new) in
    let W : Status → Type 0 = λ s. RanAll script s (driven old) (driven new) in
    let r : Ran Done tail 1 bytes (driven old) (driven new) = subst R e h in
    inl (subst W (sym e) (ran_all same told r.means.to r.means.to.comes r.means.written))
whole_by {tail = tail} {script = script} {bytes = bytes} old new same told h (inr (inl e)) =
    let R : Status → Type 0 = λ s. Ran s tail 1 bytes (driven old) (driven new) in
    let W : Status → Type 0 = λ s. RanAll script s (driven old) (driven new) in
    let r : Ran Script tail 1 bytes (driven old) (driven new) = subst R e h in
    inl (subst W (sym e) (ran_all same told r.means.to r.means.to.comes.given r.means.written))
whole_by old new same told h (inr (inr lacks)) = inr lacks

unrun_whole : {script : List ℕ} {status : Status} (old new : Run) → Unrun status (driven old) (driven new) → Closes status Memory out_of_memory old.sink new.sink → ¬ HasRisen old.sink.faults new.sink.faults → Whole script status old new
unrun_whole old new h (inl c) no_write = let U : Status → Type 0 = λ s. Unrun s (driven old) (driven new) in inr (c.0, inl (subst U c.0 h))
unrun_whole old new h (inr c) no_write = absurd (no_write c.1.risen)

-- ---- what a told source gave

at_end : (table : Table) (script bytes : List ℕ) → script ≡ bytes → length bytes ≤ SCRIPT_LIMIT → transcript_at [] End table 1 (take SCRIPT_LIMIT bytes) ≡ transcript_of table script
at_end table script bytes is fits =
    let short : nat_lt SCRIPT_LIMIT (length script) ≡ false = le-ltb _ _ (omega (arith, fits, ap length is)) in
    rw short (ap (transcript [] End table) (sym is))

past_end : (table : Table) (script bytes rest : List ℕ) → script ≡ bytes ++ rest → length bytes ≡ SCRIPT_LIMIT + 1 → transcript_at [] Over table 1 (take SCRIPT_LIMIT bytes) ≡ transcript_of table script
past_end table script bytes rest is sized =
    let long : nat_lt SCRIPT_LIMIT (length script) ≡ true = lt-ltb _ _ (omega (arith, sized, ap length is, length-append bytes rest)) in
    let front : take SCRIPT_LIMIT script ≡ take SCRIPT_LIMIT bytes = ap (take SCRIPT_LIMIT) is ∙ take-append-le SCRIPT_LIMIT bytes rest (omega (arith, sized)) in
    rw long (ap (transcript_at [] Over table 1) (sym front))

-- a source that tells its bytes has given a front of them
front_given : (left0 left : Option (List ℕ)) (script taken : List ℕ) → left0 ≡ Some script → Gave left0 left taken → (rest : List ℕ) × (script ≡ taken ++ rest)
front_given left0 None script taken told gave = absurd (let e : Some script ≡ None = sym told ∙ gave in cc)
front_given left0 (Some rest) script taken told gave = let e : Some script ≡ Some (taken ++ rest) = sym told ∙ gave in (rest, same_Some _ _ e)

-- the script itself ended the run before it was read to its end
decided_end : (table : Table) (script bytes rest : List ℕ) → script ≡ bytes ++ rest → length bytes ≤ SCRIPT_LIMIT → IsDecided (transcript_at [] More table 1 (take SCRIPT_LIMIT bytes)).ending
    → transcript_at [] More table 1 (take SCRIPT_LIMIT bytes) ≡ transcript_of table script
decided_end table script bytes rest is fits decided =
    let all : take SCRIPT_LIMIT bytes ≡ bytes = take_all SCRIPT_LIMIT bytes fits in
    let left = SCRIPT_LIMIT - length bytes in
    let sum : SCRIPT_LIMIT ≡ length bytes + left = omega (arith, fits) in
    let front : take SCRIPT_LIMIT script ≡ bytes ++ take left rest = ap (take SCRIPT_LIMIT) is ∙ ap (λ n. take n (bytes ++ rest)) sum ∙ take-append-add bytes rest left in
    let D : List ℕ → Type 0 = λ bytes. IsDecided (transcript_at [] More table 1 bytes).ending in
    ap (transcript_at [] More table 1) all ∙ sym (decided_stays [] (tail_of script) table 1 bytes (take left rest) (subst D all decided)) ∙ ap (transcript_at [] (tail_of script) table 1) (sym front)

whole_more : {status : Status} {script : List ℕ} (bytes : List ℕ) (old new : Run) (rest : List ℕ) → script ≡ bytes ++ rest → length bytes ≤ SCRIPT_LIMIT → old.machine.table.world.truth.told ≡ true
    → Ran status More 1 (take SCRIPT_LIMIT bytes) (driven old) (driven new) → Faultless status old new → Whole script status old new
whole_more bytes old new rest is fits told h (inl e) =
    let R : Status → Type 0 = λ s. Ran s More 1 (take SCRIPT_LIMIT bytes) (driven old) (driven new) in
    let r : Ran Done More 1 (take SCRIPT_LIMIT bytes) (driven old) (driven new) = subst R e h in
    absurd (let e : More ≡ End = r.means.to.comes.whole.ends.0 in cc)
whole_more {script = script} bytes old new rest is fits told h (inr (inl e)) =
    let R : Status → Type 0 = λ s. Ran s More 1 (take SCRIPT_LIMIT bytes) (driven old) (driven new) in
    let W : Status → Type 0 = λ s. RanAll script s (driven old) (driven new) in
    let r : Ran Script More 1 (take SCRIPT_LIMIT bytes) (driven old) (driven new) = subst R e h in
    let given = r.means.to.comes.given in
    let F : List (List ℕ) → Type 0 = λ gs. IsScriptFault (transcript_at gs More old.machine.table 1 (take SCRIPT_LIMIT bytes)).ending in
    let decided = fault_decided [] (pieces (take SCRIPT_LIMIT bytes)) old.machine.table 1 (subst F (given.told told) given.whole.ends) in
    inl (subst W (sym e) (ran_all (decided_end old.machine.table script bytes rest is fits decided) told r.means.to given r.means.written))
whole_more bytes old new rest is fits told h (inr (inr lacks)) = inr lacks

runs_whole : (tail : Tail) {script bytes : List ℕ} {status : Status} (old new : Run) → old.source.left ≡ Some script → old.machine.table.world.truth.told ≡ true → Taken bytes tail old.source new.source
    → RunsBy tail status bytes (driven old) (driven new) → IsFaultless old new → Faultless status old new → Whole script status old new
runs_whole End {script = script} {bytes = bytes} old new told tells t h f by =
    whole_by old new (at_end old.machine.table script bytes (all_given old.source.left new.source.left script bytes told t.gave t.holds.1) t.holds.0) tells h by
runs_whole Fault old new told tells t h f by = absurd (f.no_read t.holds.1)
runs_whole Over {script = script} {bytes = bytes} old new told tells t h f by =
    let front = front_given old.source.left new.source.left script bytes told t.gave in
    whole_by old new (past_end old.machine.table script bytes front.0 front.1 t.holds.0) tells h by
runs_whole More {script = script} {bytes = bytes} old new told tells t (inl h) f by =
    let front = front_given old.source.left new.source.left script bytes told t.gave in
    whole_more bytes old new front.0 front.1 t.holds.0 tells h by
runs_whole More old new told tells t (inr u) f by = unrun_whole old new u.unrun u.unrun.closed.means f.no_write

pub whole_runs : WholeRuns
whole_runs script status old new told tells h f = runs_whole h.tail old new told tells h.taken h.ran f (faultless_runs status old new h f)

-- ---- the rest that is unread

near_taken : (tail : Tail) {bytes : List ℕ} {s : State} {old new : SourceState} → Taken bytes tail old new → (r : Reached s 1 (take SCRIPT_LIMIT bytes)) → IsNear tail r.rest → length bytes ≤ length r.before + 131072
near_taken End {bytes = bytes} t r near = omega (arith, near, t.holds.0, ap length r.cut, length-append r.before r.rest, length-take SCRIPT_LIMIT bytes)
near_taken Fault {bytes = bytes} t r near = omega (arith, near, t.holds.0, ap length r.cut, length-append r.before r.rest, length-take SCRIPT_LIMIT bytes)
near_taken Over {bytes = bytes} t r near = omega (arith, near, t.holds.0, ap length r.cut, length-append r.before r.rest, length-take SCRIPT_LIMIT bytes)
near_taken More {bytes = bytes} t r near = omega (arith, near, t.holds.0, ap length r.cut, length-append r.before r.rest, length-take SCRIPT_LIMIT bytes)

near_script : {tail : Tail} {bytes : List ℕ} {old new : Run} → Taken bytes tail old.source new.source → Ran Script tail 1 (take SCRIPT_LIMIT bytes) (driven old) (driven new) → EndsNear old (streams new)
near_script {tail = tail} {bytes = bytes} taken h =
    let r = h.means.to.comes in
    record { bytes = bytes; tail = tail; taken = taken; reached = r.reached; near = near_taken tail taken r.reached r.near; line = h.means.to.line; tells = inl (r.ending, r.last, r.numbered) }

near_host : {tail : Tail} {bytes : List ℕ} {old new : Run} → Taken bytes tail old.source new.source → Ran HostFault tail 1 (take SCRIPT_LIMIT bytes) (driven old) (driven new) → EndsNear old (streams new)
near_host {tail = tail} {bytes = bytes} taken h =
    let r = h.means.to.comes in
    record { bytes = bytes; tail = tail; taken = taken; reached = r.stopped.reached; near = near_taken tail taken r.stopped.reached r.near; line = h.means.to.line; tells = inr r.last }

script_by : (tail : Tail) {bytes : List ℕ} (old new : Run) → Taken bytes tail old.source new.source → RunsBy tail Script bytes (driven old) (driven new) → EndsNear old (streams new)
script_by End old new t h = near_script t h
script_by Fault old new t h = near_script t h
script_by Over old new t h = near_script t h
script_by More old new t (inl r) = near_script t r
script_by More old new t (inr u) = absurd (not_unrun (λ e. cc) (λ e. cc) u.unrun.closed.means)

broken_by : (tail : Tail) {bytes : List ℕ} (old new : Run) → Taken bytes tail old.source new.source → RunsBy tail HostFault bytes (driven old) (driven new) → EndsNear old (streams new)
broken_by End old new t h = near_host t h
broken_by Fault old new t h = near_host t h
broken_by Over old new t h = near_host t h
broken_by More old new t (inl r) = near_host t r
broken_by More old new t (inr u) = absurd (not_unrun (λ e. cc) (λ e. cc) u.unrun.closed.means)

pub unread_rest : UnreadRest
unread_rest status old new h (inl is) =
    let R : Status → Type 0 = λ s. RunsBy h.tail s h.bytes (driven old) (driven new) in script_by h.tail old new h.taken (subst R is h.ran)
unread_rest status old new h (inr is) =
    let R : Status → Type 0 = λ s. RunsBy h.tail s h.bytes (driven old) (driven new) in broken_by h.tail old new h.taken (subst R is h.ran)
