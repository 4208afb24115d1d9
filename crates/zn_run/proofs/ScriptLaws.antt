-- What was taken of a script, of which some is kept, and how a run of it ends.
use Rattle.std.proofs.Common.{◌≡◌, ℕ, ◌+◌, ◌-◌, ◌<◌, ◌≤◌, false, List, [], ◌++◌, length, length-append, take, drop, Option, refl, ap, sym, subst, ◌∙◌, append_assoc, arith}
use Rattle.std.proofs.lemmas.List.{take_all, take_at, take-append-drop, drop-take, length-take-le, length-drop}
use Rattle.std.proofs.lemmas.List.Edits.{take-paste}
use lib.Seq.{paste}
use Rattle.std.specs.List.{copy_within}
use Rattle.std.proofs.Math.Seq.{take-add}
use Rattle.zn_base.specs.States.{SourceState, SinkState}
use Rattle.zn_base.specs.Told.{Gave, and_told}
use Rattle.zn_base.proofs.ToldLaws.{and_told-append, and_told-nil}
use Rattle.zn_lines.specs.declared.limits.TheConstants.{SCRIPT_LIMIT}
use Rattle.zn_lines.specs.declared.runs.Tail.{Tail}
use Rattle.zn_lines.specs.declared.runs.Tail.TheVariants.{End, Fault, Over, More}
use Rattle.zn_run.specs.Headline.{Ran, Headline}
use Rattle.zn_run.specs.Progress.{CarriedOut, IsKeptRest}
use Rattle.zn_run.specs.Script.{Taken, IsPiece, NoPiece}
use Rattle.zn_run.specs.States.{MachineState, State, Run, run_of, state_of, driven, HasRisen}
use Rattle.zn_run.specs.declared.status.Status.{Status}
use Rattle.zn_run.proofs.LineLaws.{carried_none, carried_then}
use Rattle.zn_run.proofs.RanLaws.{ran_behind, runs_by}

-- what a source gave, and then gave
pub gave_then : (left0 mid left : Option (List ℕ)) (a b : List ℕ) → Gave left0 mid a → Gave mid left b → Gave left0 left (a ++ b)
gave_then left0 mid left a b first then = first ∙ ap (λ told. and_told a told) then ∙ and_told-append a b left

-- So many bytes were taken, and no read failed. The lines at their front are carried out, and these bytes are kept, which
-- begin with the line of this number.
pub record Holds (old now : Run) (kept : List ℕ) (taken number : ℕ) : Type 0 where
  pub before : List ℕ
  pub lines : CarriedOut (driven old) (driven now) 1 before number
  pub sized : length before + length kept ≡ taken
  pub gave : Gave old.source.left now.source.left (before ++ kept)
  pub faults : now.source.faults ≡ old.source.faults

-- nothing is taken
pub holds_none : (r : Run) → r.machine.over ≡ false → Holds r r [] 0 1
holds_none r goes_on = record {
  before = [];
  lines = carried_none (driven r) 1 goes_on;
  sized = refl;
  gave = sym (and_told-nil r.source.left);
  faults = refl;
}

-- a piece is read behind what is kept
pub holds_piece : {old : Run} {machine : MachineState} {sink : SinkState} {source source' : SourceState} {front : List ℕ} {kept taken number count : ℕ} (buffer : List ℕ) → Holds old (run_of machine source sink) front taken number
    → take kept buffer ≡ front → IsPiece count kept taken buffer source source' → kept + count ≤ length buffer → Holds old (run_of machine source' sink) (take (kept + count) buffer) (taken + count) number
holds_piece {old = old} {source = source} {source' = source'} {front = front} {kept = kept} {count = count} buffer h same p within =
    let piece = take count (drop kept buffer) in
    let all : take (kept + count) buffer ≡ front ++ piece = take-add kept count buffer ∙ ap (λ xs. xs ++ piece) same in
    let G : List ℕ → Type 0 = λ bytes. Gave old.source.left source'.left bytes in
    let sized : length piece ≡ count = length-take-le count (drop kept buffer) (omega (arith, within, length-drop kept buffer)) in
    record {
      before = h.before;
      lines = h.lines;
      sized = omega (arith, h.sized, ap length all, length-append front piece, sized);
      gave = subst G (append_assoc h.before front piece ∙ ap (λ xs. h.before ++ xs) (sym all)) (gave_then old.source.left source.left source'.left (h.before ++ front) piece h.gave p.gave);
      faults = p.faults ∙ h.faults;
    }

-- lines of it are carried out, and the rest is kept
pub holds_rest : {old : Run} {machine machine' : MachineState} {sink sink' : SinkState} {source : SourceState} {bytes : List ℕ} {at next taken number : ℕ} (rest : List ℕ) → Holds old (run_of machine source sink) bytes taken number
    → IsKeptRest at next number bytes (state_of machine sink) (state_of machine' sink') → rest ≡ drop at bytes → Holds old (run_of machine' source sink') rest taken next
holds_rest {old = old} {source = source} {bytes = bytes} {at = at} rest h r is =
    let front = take at bytes in
    let all : bytes ≡ front ++ rest = sym (take-append-drop at bytes) ∙ ap (λ xs. front ++ xs) (sym is) in
    let G : List ℕ → Type 0 = λ bytes. Gave old.source.left source.left bytes in
    record {
      before = h.before ++ front;
      lines = carried_then h.lines r.rest.lines;
      sized = omega (arith, h.sized, ap length all, length-append front rest, length-append h.before front);
      gave = subst G (ap (λ xs. h.before ++ xs) all ∙ sym (append_assoc h.before front rest)) h.gave;
      faults = h.faults;
    }

-- ---- how a run ends

-- behind the lines that are carried out
headline_behind : {result : Status} {old new : Run} {mid : State} {before script bytes : List ℕ} {number : ℕ} (tail : Tail) → CarriedOut (driven old) mid 1 before number → take SCRIPT_LIMIT bytes ≡ before ++ script
    → Taken bytes tail old.source new.source → Ran result tail number script mid (driven new) → Headline result old new
headline_behind {result = result} {bytes = bytes} tail lines is taken r = record {
  bytes = bytes;
  tail = tail;
  taken = taken;
  ran = runs_by tail bytes (sym is) (ran_behind result refl lines r);
}

within_limit : (before kept : List ℕ) {taken : ℕ} → length before + length kept ≡ taken → taken ≤ SCRIPT_LIMIT → length (before ++ kept) ≤ SCRIPT_LIMIT
within_limit before kept sized within = omega (arith, sized, within, length-append before kept)

-- the source was read to its end
pub ends_at_end : {result : Status} {old : Run} {machine machine' : MachineState} {sink sink' : SinkState} {source source' : SourceState} {front script : List ℕ} {kept taken number count : ℕ} (buffer : List ℕ)
    → Holds old (run_of machine source sink) front taken number → taken ≤ SCRIPT_LIMIT → count ≡ 0 → IsPiece count kept taken buffer source source' → script ≡ front → Ran result End number script (state_of machine sink) (state_of machine' sink')
    → Headline result old (run_of machine' source' sink')
ends_at_end {old = old} {source = source} {source' = source'} {front = front} {kept = kept} buffer h within none p is r =
    let same : source.left ≡ source'.left = p.gave ∙ ap (λ n. and_told (take n (drop kept buffer)) source'.left) none ∙ and_told-nil source'.left in
    let G : Option (List ℕ) → Type 0 = λ left. Gave old.source.left left (h.before ++ front) in
    let fits = within_limit h.before front h.sized within in
    headline_behind End h.lines (take_all SCRIPT_LIMIT (h.before ++ front) fits ∙ ap (λ xs. h.before ++ xs) (sym is)) (record { gave = subst G same h.gave; holds = (fits, p.at_end none, p.faults ∙ h.faults) }) r

-- a read failed
pub ends_unread : {result : Status} {old : Run} {machine machine' : MachineState} {sink sink' : SinkState} {source source' : SourceState} {front script : List ℕ} {taken number : ℕ}
    → Holds old (run_of machine source sink) front taken number → taken ≤ SCRIPT_LIMIT → NoPiece source source' → script ≡ front → Ran result Fault number script (state_of machine sink) (state_of machine' sink')
    → Headline result old (run_of machine' source' sink')
ends_unread {old = old} {source' = source'} {front = front} h within none is r =
    let G : Option (List ℕ) → Type 0 = λ left. Gave old.source.left left (h.before ++ front) in
    let R : ℕ → Type 0 = λ n. HasRisen n source'.faults in
    let fits = within_limit h.before front h.sized within in
    headline_behind Fault h.lines (take_all SCRIPT_LIMIT (h.before ++ front) fits ∙ ap (λ xs. h.before ++ xs) (sym is)) (record { gave = subst G (sym none.left) h.gave; holds = (fits, subst R h.faults none.risen) }) r

-- one byte beyond the limit was read
pub ends_over : {result : Status} {old : Run} {machine machine' : MachineState} {sink sink' : SinkState} {source : SourceState} {bytes script : List ℕ} {taken number : ℕ} (last : List ℕ)
    → Holds old (run_of machine source sink) bytes taken number → taken ≡ SCRIPT_LIMIT + 1 → bytes ≡ script ++ last → length last ≡ 1 → Ran result Over number script (state_of machine sink) (state_of machine' sink')
    → Headline result old (run_of machine' source sink')
ends_over {bytes = bytes} {script = script} last h over is one r =
    let sized : length (h.before ++ script) ≡ SCRIPT_LIMIT = omega (arith, h.sized, over, one, ap length is, length-append script last, length-append h.before script) in
    let all : h.before ++ bytes ≡ (h.before ++ script) ++ last = ap (λ xs. h.before ++ xs) is ∙ sym (append_assoc h.before script last) in
    headline_behind Over h.lines (ap (take SCRIPT_LIMIT) all ∙ take_at (h.before ++ script) last SCRIPT_LIMIT sized)
    (record { gave = h.gave; holds = (omega (arith, h.sized, over, length-append h.before bytes), h.faults) }) r

-- a line ended the run before all was read
pub ends_early : {result : Status} {old : Run} {machine machine' : MachineState} {sink sink' : SinkState} {source : SourceState} {bytes : List ℕ} {taken number : ℕ}
    → Holds old (run_of machine source sink) bytes taken number → taken ≤ SCRIPT_LIMIT → Ran result More number bytes (state_of machine sink) (state_of machine' sink')
    → Headline result old (run_of machine' source sink')
ends_early {bytes = bytes} h within r =
    let fits = within_limit h.before bytes h.sized within in
    headline_behind More h.lines (take_all SCRIPT_LIMIT (h.before ++ bytes) fits) (record { gave = h.gave; holds = (fits, h.faults) }) r

-- ---- the buffer

-- all but the last of its bytes, and the last
pub last_apart : (buffer : List ℕ) (end : ℕ) → 0 < end → take end buffer ≡ take (end - 1) buffer ++ take 1 (drop (end - 1) buffer)
last_apart buffer end some =
    let sum : end ≡ end - 1 + 1 = omega (arith, some) in
    ap (λ n. take n buffer) sum ∙ take-add (end - 1) 1 buffer

pub last_alone : (buffer : List ℕ) (end : ℕ) → 0 < end → end ≤ length buffer → length (take 1 (drop (end - 1) buffer)) ≡ 1
last_alone buffer end some within = length-take-le 1 (drop (end - 1) buffer) (omega (arith, some, within, length-drop (end - 1) buffer))

-- what is moved to its front
pub moved_front : (buffer moved : List ℕ) (at end : ℕ) → at ≤ end → end ≤ length buffer → moved ≡ copy_within buffer at end 0 → take (end - at) moved ≡ drop at (take end buffer)
moved_front buffer moved at end within inside is =
    let n = end - at in
    let same : n ≡ 0 + n = omega arith in
    let whole : at + n ≡ end = omega (arith, within) in
    ap (take n) is ∙ ap (λ k. take k (paste buffer 0 (drop at buffer) n)) same
    ∙ take-paste buffer 0 (drop at buffer) n (omega arith) (omega (arith, within, inside, length-drop at buffer))
    ∙ sym (drop-take at n buffer) ∙ ap (λ k. drop at (take k buffer)) whole
