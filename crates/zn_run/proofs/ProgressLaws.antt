-- How the lines that a newline ends go on, and how they end a run.
use Rattle.std.proofs.Common.{◌≡◌, ℕ, ◌+◌, ◌-◌, ◌<◌, ◌≤◌, false, List, [], ◌∷◌, ◌++◌, length, take, drop, Option, Some, None, Result, Ok, Err, refl, ap, sym, subst, ◌∙◌, append_assoc, length-append, arith}
use Rattle.std.proofs.lemmas.List.{take_at, take-append-drop, take_rest, drop-drop, length-take-le, length-drop}
use Rattle.std.proofs.Math.Seq.{take-add}
use Rattle.zn_base.specs.States.{SinkState}
use Rattle.zn_lines.specs.declared.runs.Tail.{Tail}
use Rattle.zn_lines.specs.declared.runs.Ending.TheVariants.{BadLine as is_bad, LineTooLong}
use Rattle.zn_lines.specs.Lines.{Line}
use Rattle.zn_lines.specs.Grammar.{reading_of}
use Rattle.zn_lines.specs.Table.{Table}
use Rattle.zn_lines.specs.Session.{line_step}
use Rattle.zn_lines.specs.Transcript.{transcript_at, OneLine, FirstLineEnds}
use Rattle.zn_run.specs.States.{State, Added}
use Rattle.zn_run.specs.Steps.{DoneBy, Stepped}
use Rattle.zn_run.specs.Progress.{WholeLines, CarriedOut, Reached, StoppedBy, IsEnded, IsBroken, first_line}
use Rattle.zn_run.specs.declared.machine.Step.{Step}
use Rattle.zn_run.specs.declared.machine.Step.TheVariants.{Done, BadLine, Broken}
use Rattle.zn_run.proofs.TranscriptLaws.{line_bad, line_long}
use Rattle.zn_run.proofs.LineLaws.{lines_read, lines_passed, added_none, carried_then, next_ended, first_line_ended}

-- ---- the line at a place

-- a line of this length begins at the place, and a newline ends it
pub record LineAt (script : List ℕ) (at len : ℕ) (line : List ℕ) : Type 0 where
  pub is : drop at script ≡ line ++ 10 ∷ drop (at + (len + 1)) script
  pub upto : take (at + (len + 1)) script ≡ take at script ++ (line ++ 10 ∷ [])
  pub one : OneLine line
  pub sized : length line ≡ len
  pub within : at + (len + 1) ≤ length script

taken_line : (bytes : List ℕ) (len : ℕ) → FirstLineEnds bytes len → take (len + 1) bytes ≡ take len bytes ++ 10 ∷ []
taken_line bytes len first =
    let line = take len bytes in
    let sized : length (line ++ 10 ∷ []) ≡ len + 1 = omega (arith, length-append line (10 ∷ []), length-take-le len bytes (omega (arith, first.within))) in
    ap (take (len + 1)) (first.cut ∙ sym (append_assoc line (10 ∷ []) (drop (len + 1) bytes))) ∙ take_at (line ++ 10 ∷ []) (drop (len + 1) bytes) (len + 1) sized

-- as the code's slices spell it
pub line_at : (script : List ℕ) (at len : ℕ) → at ≤ length script → FirstLineEnds (take (length script - at) (drop at script)) len → LineAt script at len (take (at + len - at) (drop at script))
line_at script at len inside first =
    let E : List ℕ → Type 0 = λ bytes. FirstLineEnds bytes len in
    let f : FirstLineEnds (drop at script) len = subst E (take_rest script at) first in
    let plain : at + len - at ≡ len = omega arith in
    record {
      is = rw plain (f.cut ∙ ap (λ others. take len (drop at script) ++ 10 ∷ others) (drop-drop (len + 1) at script));
      upto = rw plain (take-add at (len + 1) script ∙ ap (λ xs. take at script ++ xs) (taken_line (drop at script) len f));
      one = rw plain f.one;
      sized = rw plain (length-take-le len (drop at script) (omega (arith, f.within)));
      within = omega (arith, f.within, length-drop at script);
    }

-- ---- how far the lines are carried out

abbrev pub standing : {old mid : State} {first number : ℕ} (script : List ℕ) (at : ℕ) → CarriedOut old mid first (take at script) number → Reached old first script
standing {mid = mid} {number = number} script at lines = record {
  before = take at script;
  state = mid;
  number = number;
  rest = drop at script;
  cut = sym (take-append-drop at script);
  lines = lines;
}

-- a line that is done
done_line : (reading : Result (Option Line) ℕ) (mid new : State) (n : ℕ) (line : List ℕ) → OneLine line → length line ≤ 65536 → reading_of line ≡ reading → DoneBy reading mid new
    → new.machine.over ≡ false → new.machine.steps ≡ mid.machine.steps + 1 → new.machine.takes_memory ≡ mid.machine.takes_memory → CarriedOut mid new n (line ++ 10 ∷ []) (n + 1)
done_line (Ok None) mid new n line one fits reads d goes_on counted memory = record {
  out = [];
  lines = let W : Table → Type 0 = λ t. WholeLines mid.machine.table n (line ++ 10 ∷ []) [] t (n + 1) in subst W (sym d.table) (lines_passed mid.machine.table n line one fits reads);
  replies = let S : SinkState → Type 0 = λ s. Added [] mid.sink s in subst S (sym d.sink) (added_none mid.sink);
  breaks = d.breaks;
  spoilt = d.spoilt;
  steps = omega (arith, counted);
  memory = memory;
  goes_on = goes_on;
}
done_line (Ok (Some l)) mid new n line one fits reads d goes_on counted memory = record {
  out = (line_step d.given mid.machine.table l).text;
  lines = let W : Table → Type 0 = λ t. WholeLines mid.machine.table n (line ++ 10 ∷ []) (line_step d.given mid.machine.table l).text t (n + 1) in subst W (sym d.table) (lines_read d.given mid.machine.table n l line one fits reads);
  replies = d.reply;
  breaks = d.breaks;
  spoilt = d.spoilt;
  steps = omega (arith, counted);
  memory = memory;
  goes_on = goes_on;
}
done_line (Err column) mid new n line one fits reads d goes_on counted memory = absurd d

-- one line more
pub go_on : {old mid new : State} {first : ℕ} {script line : List ℕ} {at len number : ℕ} → CarriedOut old mid first (take at script) number → LineAt script at len line → length line ≤ 65536
    → Stepped Done (reading_of line) mid new → CarriedOut old new first (take (at + (len + 1)) script) (number + 1)
go_on {old = old} {mid = mid} {new = new} {first = first} {line = line} {number = number} p n fits d =
    let C : List ℕ → Type 0 = λ bytes. CarriedOut old new first bytes (number + 1) in
    subst C (sym n.upto) (carried_then p (done_line (reading_of line) mid new number line n.one fits refl d.means.means d.means.goes_on d.counted d.memory))

-- ---- how a line ends them

pub halt_bad : {old mid new : State} {first : ℕ} {script line : List ℕ} {at len number column : ℕ} → CarriedOut old mid first (take at script) number → LineAt script at len line → length line ≤ 65536
    → Stepped (BadLine column) (reading_of line) mid new → (tail : Tail) → IsEnded (is_bad number column) tail first script old new
halt_bad {mid = mid} {script = script} {line = line} {at = at} {len = len} {number = number} {column = column} p n fits b tail = record {
  reached = standing script at p;
  is_fault = tt;
  numbered = refl;
  ends = λ givens. ap (transcript_at givens tail mid.machine.table number) n.is ∙ line_bad givens tail mid.machine.table number column line (drop (at + (len + 1)) script) n.one fits b.means.reads;
  unmoved = b.means.unmoved;
}

pub halt_long : {old mid : State} {first : ℕ} {script line : List ℕ} {at len number : ℕ} → CarriedOut old mid first (take at script) number → LineAt script at len line → 65536 < length line
    → (tail : Tail) → IsEnded (LineTooLong number) tail first script old mid
halt_long {mid = mid} {script = script} {line = line} {at = at} {len = len} {number = number} p n long tail = record {
  reached = standing script at p;
  is_fault = tt;
  numbered = refl;
  ends = λ givens. ap (transcript_at givens tail mid.machine.table number) n.is ∙ line_long givens tail mid.machine.table number line (10 ∷ drop (at + (len + 1)) script) n.one long;
  unmoved = record { table = refl; breaks = refl; spoilt = refl; sink = refl };
}

-- a line of the grammar that ended them
abbrev pub halt_at : {step : Step} {old mid new : State} {first : ℕ} {script line : List ℕ} {at len number : ℕ} → CarriedOut old mid first (take at script) number → LineAt script at len line → length line ≤ 65536
    → Stepped step (reading_of line) mid new → (l : Line) → reading_of line ≡ Ok (Some l) → (tail : Tail) → StoppedBy step tail first script old new
halt_at {step = step} {mid = mid} {new = new} {script = script} {line = line} {at = at} {len = len} {number = number} p n fits s l reads tail =
    let others = drop (at + (len + 1)) script in
    let S : List ℕ → Type 0 = λ first. Stepped step (reading_of first) mid new in
    record {
      reached = standing script at p;
      line = l;
      next = next_ended tail mid.machine.table number (drop at script) line others l n.is n.one fits reads;
      stepped = subst S (sym (ap first_line n.is ∙ first_line_ended line others n.one)) s;
    }

pub halt_broken : {old mid new : State} {first : ℕ} {script line : List ℕ} {at len number : ℕ} → CarriedOut old mid first (take at script) number → LineAt script at len line → length line ≤ 65536
    → Stepped Broken (reading_of line) mid new → (tail : Tail) → IsBroken number tail first script old new
halt_broken p n fits s tail = record { stopped = halt_at p n fits s s.means.line s.means.reads tail; numbered = refl }
