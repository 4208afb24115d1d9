-- Whole lines, and the next line of a rest.
use Rattle.std.proofs.Common.{◌≡◌, ℕ, ◌+◌, ◌≤◌, false, List, [], ◌∷◌, ◌++◌, length, Some, None, Ok, refl, ap, sym, ◌∙◌, append_assoc, arith}
use Rattle.std.proofs.lemmas.Grind.{common_steps}
use Rattle.zn_base.specs.States.{SinkState}
use Rattle.zn_base.proofs.ToldLaws.{told_and-nil, grew_then}
use Rattle.zn_lines.specs.declared.runs.Tail.{Tail}
use Rattle.zn_lines.specs.Lines.{Line}
use Rattle.zn_lines.specs.Grammar.{reading_of}
use Rattle.zn_lines.specs.Table.{Table}
use Rattle.zn_lines.specs.Session.{line_step}
use Rattle.zn_lines.specs.Transcript.{Transcript, with_text, transcript_at, OneLine, NotNewline}
use Rattle.zn_run.specs.Progress.{WholeLines, CarriedOut, Reached, IsNext, StoppedBy, first_line}
use Rattle.zn_run.specs.States.{State, Added}
use Rattle.zn_run.specs.declared.machine.Step.{Step}
use Rattle.zn_run.proofs.TranscriptLaws.{with_text-append, line_read, line_passed}
use Rattle.std.proofs.lemmas.List.Elements.{All-head, All-tail}

-- ---- whole lines

pub no_lines : (table : Table) (n : ℕ) → WholeLines table n [] [] table n
no_lines table n = record { givens = []; follows = λ tail others more. refl }

pub lines_then : {table0 table table' : Table} {first n n' : ℕ} {a b out out' : List ℕ} → WholeLines table0 first a out table n → WholeLines table n b out' table' n' → WholeLines table0 first (a ++ b) (out ++ out') table' n'
lines_then {table0 = table0} {table = table} {table' = table'} {first = first} {n = n} {n' = n'} {a = a} {b = b} {out = out} {out' = out'} p q = record {
  givens = p.givens ++ q.givens;
  follows = λ tail others more.
      ap (λ gs. transcript_at gs tail table0 first ((a ++ b) ++ more)) (append_assoc p.givens q.givens others)
      ∙ ap (transcript_at (p.givens ++ (q.givens ++ others)) tail table0 first) (append_assoc a b more) ∙ p.follows tail (q.givens ++ others) (b ++ more) ∙ ap (with_text out) (q.follows tail others more)
      ∙ with_text-append out out' (transcript_at others tail table' n' more);
}

pub lines_read : (given : List ℕ) (table : Table) (n : ℕ) (l : Line) (line : List ℕ) → OneLine line → length line ≤ 65536 → reading_of line ≡ Ok (Some l) → WholeLines table n (line ++ 10 ∷ []) (line_step given table l).text (line_step given table l).table (n + 1)
lines_read given table n l line one fits reads = record {
  givens = given ∷ [];
  follows = λ tail others more. ap (transcript_at (given ∷ others) tail table n) (append_assoc line (10 ∷ []) more) ∙ line_read (given ∷ others) tail table n l line more one fits reads;
}

pub lines_passed : (table : Table) (n : ℕ) (line : List ℕ) → OneLine line → length line ≤ 65536 → reading_of line ≡ Ok None → WholeLines table n (line ++ 10 ∷ []) [] table (n + 1)
lines_passed table n line one fits reads = record {
  givens = [] ∷ [];
  follows = λ tail others more. ap (transcript_at ([] ∷ others) tail table n) (append_assoc line (10 ∷ []) more) ∙ line_passed ([] ∷ others) tail table n line more one fits reads;
}

-- ---- what is written

pub added_none : (s : SinkState) → Added [] s s
added_none s = record { grew = sym (told_and-nil s.written); kept = refl }

pub added_then : {old mid new : SinkState} {a b : List ℕ} → Added a old mid → Added b mid new → Added (a ++ b) old new
added_then {old = old} {mid = mid} {new = new} {a = a} {b = b} p q = record {
  grew = grew_then old.written mid.written new.written a b p.grew q.grew;
  kept = q.kept ∙ p.kept;
}

-- ---- lines that are carried out

pub carried_none : (s : State) (n : ℕ) → s.machine.over ≡ false → CarriedOut s s n [] n
carried_none s n goes_on = record {
  out = [];
  lines = no_lines s.machine.table n;
  replies = added_none s.sink;
  breaks = refl;
  spoilt = refl;
  steps = refl;
  memory = refl;
  goes_on = goes_on;
}

pub carried_then : {old mid new : State} {first n n' : ℕ} {a b : List ℕ} → CarriedOut old mid first a n → CarriedOut mid new n b n' → CarriedOut old new first (a ++ b) n'
carried_then p q = record {
  out = p.out ++ q.out;
  lines = lines_then p.lines q.lines;
  replies = added_then p.replies q.replies;
  breaks = q.breaks ∙ p.breaks;
  spoilt = q.spoilt ∙ p.spoilt;
  steps = omega (arith, p.steps, q.steps);
  memory = q.memory ∙ p.memory;
  goes_on = q.goes_on;
}

-- ---- places that are reached

-- the very beginning
abbrev pub reached_here : (s : State) (n : ℕ) (script : List ℕ) → s.machine.over ≡ false → Reached s n script
reached_here s n script goes_on = record { before = []; state = s; number = n; rest = script; cut = refl; lines = carried_none s n goes_on }

-- a place behind whole lines
abbrev pub reached_behind : {old mid : State} {first n : ℕ} {script a rest : List ℕ} → script ≡ a ++ rest → CarriedOut old mid first a n → Reached mid n rest → Reached old first script
reached_behind {a = a} cut lines r = record {
  before = a ++ r.before;
  state = r.state;
  number = r.number;
  rest = r.rest;
  cut = cut ∙ ap (λ xs. a ++ xs) r.cut ∙ sym (append_assoc a r.before r.rest);
  lines = carried_then lines r.lines;
}

-- the transcript of all, by that of the rest
pub transcript_reached : {old : State} {first : ℕ} {script : List ℕ} (tail : Tail) (others : List (List ℕ)) (r : Reached old first script)
    → transcript_at (r.lines.lines.givens ++ others) tail old.machine.table first script ≡ with_text r.lines.out (transcript_at others tail r.state.machine.table r.number r.rest)
transcript_reached {old = old} {first = first} tail others r =
    ap (transcript_at (r.lines.lines.givens ++ others) tail old.machine.table first) r.cut ∙ r.lines.lines.follows tail others r.rest

-- a line behind whole lines
abbrev pub stopped_behind : {step : Step} {tail : Tail} {old mid new : State} {first n : ℕ} {script a rest : List ℕ} → script ≡ a ++ rest → CarriedOut old mid first a n → StoppedBy step tail n rest mid new → StoppedBy step tail first script old new
stopped_behind cut lines s = record { reached = reached_behind cut lines s.reached; line = s.line; next = s.next; stepped = s.stepped }

-- ---- the first line

not_first : (b : ℕ) (bytes : List ℕ) → NotNewline b → first_line (b ∷ bytes) ≡ b ∷ first_line bytes
not_first b bytes differs = grind (arith, common_steps)

pub first_line_ended : (line others : List ℕ) → OneLine line → first_line (line ++ 10 ∷ others) ≡ line
first_line_ended [] others one = refl
first_line_ended (b ∷ line) others one =
    not_first b (line ++ 10 ∷ others) (All-head NotNewline b line one) ∙ ap (λ xs. b ∷ xs) (first_line_ended line others (All-tail NotNewline b line one))

pub first_line_last : (line : List ℕ) → OneLine line → first_line line ≡ line
first_line_last [] one = refl
first_line_last (b ∷ line) one =
    not_first b line (All-head NotNewline b line one) ∙ ap (λ xs. b ∷ xs) (first_line_last line (All-tail NotNewline b line one))

-- a line that a newline ends is next
pub next_ended : (tail : Tail) (table : Table) (n : ℕ) (rest line others : List ℕ) (l : Line) → rest ≡ line ++ 10 ∷ others → OneLine line → length line ≤ 65536 → reading_of line ≡ Ok (Some l) → IsNext tail table n rest l
next_ended tail table n rest line others l is one fits reads = record {
  reads = ap reading_of (ap first_line is ∙ first_line_ended line others one) ∙ reads;
  due = λ given givens. (
    (transcript_at givens tail (line_step given table l).table (n + 1) others).text,
    ap (λ (t : Transcript). t.text) (ap (transcript_at (given ∷ givens) tail table n) is ∙ line_read (given ∷ givens) tail table n l line others one fits reads),
  );
}
