-- What no newline ends.
use Rattle.std.proofs.Common.{◌≡◌, ℕ, ◌<◌, ◌≤◌, false, List, [], ◌∷◌, length, Option, Some, None, Result, Ok, Err, refl, ap, sym, subst, ◌∙◌, arith}
use Rattle.std.proofs.lemmas.List.{append-nil, nil_from_length}
use Rattle.zn_base.specs.States.{SinkState}
use Rattle.zn_lines.specs.declared.runs.Tail.{Tail}
use Rattle.zn_lines.specs.declared.runs.Tail.TheVariants.{End, Fault}
use Rattle.zn_lines.specs.declared.runs.Ending.{Ending}
use Rattle.zn_lines.specs.declared.runs.Ending.TheVariants.{Finished, BadLine as is_bad, LineTooLong, ReadFailed}
use Rattle.zn_lines.specs.Lines.{Line}
use Rattle.zn_lines.specs.Grammar.{reading_of}
use Rattle.zn_lines.specs.Table.{Table}
use Rattle.zn_lines.specs.Session.{line_step}
use Rattle.zn_lines.specs.Transcript.{Transcript, stop, first_given, line_then, last_piece, transcript_at, OneLine, last_line}
use Rattle.zn_run.specs.Endings.{out_of_memory, host_fault}
use Rattle.zn_run.specs.Headline.{Closed, RanGiven, Ran}
use Rattle.zn_run.specs.Progress.{IsNext, StoppedBy}
use Rattle.zn_run.specs.States.{MachineState, State, state_of, Added}
use Rattle.zn_run.specs.Script.{IsNear}
use Rattle.zn_run.specs.Statuses.{IsScriptFault, line_of}
use Rattle.zn_run.specs.Steps.{DoneBy, Stepped}
use Rattle.zn_run.specs.declared.machine.Step.{Step}
use Rattle.zn_run.specs.declared.machine.Step.TheVariants.{Done as done_step, BadLine, Broken, SinkFault as cut_step, Memory as starved_step}
use Rattle.zn_run.specs.declared.status.Status.{Status}
use Rattle.zn_run.specs.declared.status.Status.TheVariants.{Done, Script, HostFault, ReadFault as unread, WriteFault, Memory}
use Rattle.zn_run.proofs.TranscriptLaws.{line_long, last_is}
use Rattle.zn_run.proofs.LineLaws.{added_none, reached_here, first_line_last}
use Rattle.zn_run.proofs.RanLaws.{whole_along, given_of, closes, given_ended, comes_script, ran_starved, ran_broken, ran_cut}

-- ---- the transcript

pub long_is : (givens : List (List ℕ)) (tail : Tail) (table : Table) (n : ℕ) (piece : List ℕ) → OneLine piece → 65536 < length piece → transcript_at givens tail table n piece ≡ stop table (LineTooLong n)
long_is givens tail table n piece one long = ap (transcript_at givens tail table n) (sym (append-nil piece)) ∙ line_long givens tail table n piece [] one long

pub tail_is : (givens : List (List ℕ)) (tail kind : Tail) (table : Table) (n : ℕ) (piece : List ℕ) → OneLine piece → length piece ≤ 65536 → tail ≡ kind → transcript_at givens tail table n piece ≡ last_piece (first_given givens) kind table n piece
tail_is givens tail kind table n piece one fits is = last_is givens tail table n piece one fits ∙ ap (λ k. last_piece (first_given givens) k table n piece) is

none_is : (given : List ℕ) (table : Table) (n : ℕ) (piece : List ℕ) → length piece ≡ 0 → last_piece given End table n piece ≡ stop table Finished
none_is given table n piece empty = ap (last_piece given End table n) (nil_from_length piece empty)

some_is : (given : List ℕ) (table : Table) (n : ℕ) (piece : List ℕ) → 0 < length piece → last_piece given End table n piece ≡ line_then given (reading_of piece) table n (λ after. stop after Finished)
some_is given table n [] some = absurd (omega arith)
some_is given table n (b ∷ bytes) some = refl

-- a last line, by how it is read
read_is : (givens : List (List ℕ)) (table : Table) (n : ℕ) (line : List ℕ) (reading : Result (Option Line) ℕ) → OneLine line → 0 < length line → length line ≤ 65536 → reading_of line ≡ reading → transcript_at givens End table n line ≡ line_then (first_given givens) reading table n (λ after. stop after Finished)
read_is givens table n line reading one some fits reads =
    last_is givens End table n line one fits ∙ some_is (first_given givens) table n line some ∙ ap (λ r. line_then (first_given givens) r table n (λ after. stop after Finished)) reads

next_last : (table : Table) (n : ℕ) (line : List ℕ) (l : Line) → OneLine line → 0 < length line → length line ≤ 65536 → reading_of line ≡ Ok (Some l) → IsNext End table n line l
next_last table n line l one some fits reads = record {
  reads = ap reading_of (first_line_last line one) ∙ reads;
  due = λ given givens. ([], ap (λ (t : Transcript). t.text) (read_is (given ∷ givens) table n line (Ok (Some l)) one some fits reads));
}

-- ---- a last line

done_last : (reading : Result (Option Line) ℕ) (old new : State) (n : ℕ) (line : List ℕ) → OneLine line → 0 < length line → length line ≤ 65536 → reading_of line ≡ reading → DoneBy reading old new → RanGiven Done End n line [] old new
done_last (Ok None) old new n line one some fits reads d =
    let S : SinkState → Type 0 = λ s. Added [] old.sink s in
    given_of []
    (whole_along (read_is [] old.machine.table n line (Ok None) one some fits reads)
    (record { ends = (refl, refl); last = refl; table = d.table; breaks = d.breaks; spoilt = d.spoilt; replies = subst S (sym d.sink) (added_none old.sink) }))
done_last (Ok (Some l)) old new n line one some fits reads d =
    let reply = (line_step d.given old.machine.table l).text in
    let T : List ℕ → Type 0 = λ text. Added text old.sink new.sink in
    given_of (d.given ∷ [])
    (whole_along (read_is (d.given ∷ []) old.machine.table n line (Ok (Some l)) one some fits reads)
    (record { ends = (refl, refl); last = refl; table = d.table; breaks = d.breaks; spoilt = d.spoilt; replies = subst T (sym (append-nil reply)) d.reply }))
done_last (Err column) old new n line one some fits reads d = absurd d

pub last_done : {result : Status} {old : State} {line : List ℕ} {machine : MachineState} {sink sink' : SinkState} (n : ℕ) → OneLine line → 0 < length line → length line ≤ 65536 → Stepped done_step (reading_of line) old (state_of machine sink)
    → Closed result Done [] sink sink' → Ran result End n line old (state_of machine sink')
last_done {old = old} {line = line} {machine = machine} {sink = sink} n one some fits s c =
    closes (done_last (reading_of line) old (state_of machine sink) n line one some fits refl s.means.means) c

-- a last line of the grammar that was not answered
abbrev stopped_last : {step : Step} {old new : State} {line : List ℕ} (n : ℕ) → old.machine.over ≡ false → OneLine line → 0 < length line → length line ≤ 65536 → Stepped step (reading_of line) old new → (l : Line) → reading_of line ≡ Ok (Some l)
    → StoppedBy step End n line old new
stopped_last {step = step} {old = old} {new = new} {line = line} n goes_on one some fits s l reads =
    let S : List ℕ → Type 0 = λ first. Stepped step (reading_of first) old new in
    record {
      reached = reached_here old n line goes_on;
      line = l;
      next = next_last old.machine.table n line l one some fits reads;
      stepped = subst S (sym (first_line_last line one)) s;
    }

pub last_bad : {result : Status} {old : State} {line : List ℕ} {machine : MachineState} {sink sink' : SinkState} {column : ℕ} (n : ℕ) → old.machine.over ≡ false → OneLine line → 0 < length line → length line ≤ 65536
    → Stepped (BadLine column) (reading_of line) old (state_of machine sink) → Closed result Script (last_line (is_bad n column)) sink sink' → Ran result End n line old (state_of machine sink')
last_bad {old = old} {line = line} {column = column} n goes_on one some fits s c =
    closes (comes_script End (is_bad n column) (reached_here old n line goes_on) tt refl (omega (arith, fits)) (λ givens. read_is givens old.machine.table n line (Err column) one some fits s.means.reads) s.means.unmoved) c

pub last_broken : {result : Status} {old : State} {line : List ℕ} {machine : MachineState} {sink sink' : SinkState} (n : ℕ) → old.machine.over ≡ false → OneLine line → 0 < length line → length line ≤ 65536
    → Stepped Broken (reading_of line) old (state_of machine sink) → Closed result HostFault (host_fault n) sink sink' → Ran result End n line old (state_of machine sink')
last_broken n goes_on one some fits s c = ran_broken (omega (arith, fits)) (record { stopped = stopped_last n goes_on one some fits s s.means.line s.means.reads; numbered = refl }) c

pub last_cut : {old new : State} {line : List ℕ} (n : ℕ) → old.machine.over ≡ false → OneLine line → 0 < length line → length line ≤ 65536 → Stepped cut_step (reading_of line) old new → Ran WriteFault End n line old new
last_cut n goes_on one some fits s = ran_cut (stopped_last n goes_on one some fits s s.means.line s.means.reads)

pub last_starved : {result : Status} {old : State} {line : List ℕ} {machine : MachineState} {sink sink' : SinkState} (n : ℕ) → old.machine.over ≡ false → OneLine line → 0 < length line → length line ≤ 65536
    → Stepped starved_step (reading_of line) old (state_of machine sink) → Closed result Memory out_of_memory sink sink' → Ran result End n line old (state_of machine sink')
last_starved n goes_on one some fits s c = ran_starved (stopped_last n goes_on one some fits s s.means.line s.means.reads) c

-- ---- no line

-- nothing is left
pub none_left : {result : Status} {tail : Tail} {machine : MachineState} {sink sink' : SinkState} (n : ℕ) (rest : List ℕ) → OneLine rest → length rest ≤ 65536 → tail ≡ End → length rest ≡ 0 → Closed result Done [] sink sink'
    → Ran result tail n rest (state_of machine sink) (state_of machine sink')
none_left {tail = tail} {machine = machine} {sink = sink} n rest one fits is empty c =
    let whole = whole_along (tail_is [] tail End machine.table n rest one fits is ∙ none_is [] machine.table n rest empty) (record { ends = (is, refl); last = refl; table = refl; breaks = refl; spoilt = refl; replies = added_none sink }) in
    let given : RanGiven Done tail n rest [] (state_of machine sink) (state_of machine sink) = given_of [] whole in
    closes given c

-- the script ends the run before the rest
pub script_here : {result : Status} {tail : Tail} {machine : MachineState} {sink sink' : SinkState} (n : ℕ) (rest : List ℕ) (by : Ending) → machine.over ≡ false → IsNear tail rest → IsScriptFault by → line_of by ≡ Some n
    → ((givens : List (List ℕ)) → transcript_at givens tail machine.table n rest ≡ stop machine.table by) → Closed result Script (last_line by) sink sink' → Ran result tail n rest (state_of machine sink) (state_of machine sink')
script_here {tail = tail} {machine = machine} {sink = sink} n rest by goes_on near is_fault numbered is c =
    closes (comes_script tail by (reached_here (state_of machine sink) n rest goes_on) is_fault numbered near is (record { table = refl; breaks = refl; spoilt = refl; sink = refl })) c

-- a read failed behind the rest
pub unread_here : {result : Status} {tail : Tail} {machine : MachineState} {sink sink' : SinkState} (n : ℕ) (rest : List ℕ) → machine.over ≡ false → tail ≡ Fault
    → ((givens : List (List ℕ)) → transcript_at givens tail machine.table n rest ≡ stop machine.table ReadFailed) → Closed result unread (last_line ReadFailed) sink sink' → Ran result tail n rest (state_of machine sink) (state_of machine sink')
unread_here {tail = tail} {machine = machine} {sink = sink} n rest goes_on is_tail is c =
    closes (given_ended unread tail ReadFailed (reached_here (state_of machine sink) n rest goes_on) (is_tail, refl) is (record { table = refl; breaks = refl; spoilt = refl; sink = refl })) c
