-- How a transcript goes on by one line.
use Rattle.std.proofs.Common.{◌≡◌, ℕ, ◌+◌, ◌<◌, ◌≤◌, Bool, true, false, cond, List, [], ◌∷◌, ◌++◌, length, Some, None, Ok, Err, refl, ap, sym, ◌∙◌, append_assoc, length-append, ltb, lt-ltb, le-ltb, arith}
use Rattle.std.proofs.lemmas.List.Splits.{slice_split_at, slice_split_none, slice_split-cons_no}
use Rattle.std.proofs.lemmas.List.Elements.{All-head, All-tail}
use Rattle.std.specs.List.{onto_first, slice_split}
use Rattle.zn_lines.specs.declared.runs.Tail.{Tail}
use Rattle.zn_lines.specs.declared.runs.Ending.TheVariants.{BadLine, LineTooLong}
use Rattle.zn_lines.specs.Lines.{Line}
use Rattle.zn_lines.specs.Grammar.{reading_of}
use Rattle.zn_lines.specs.Table.{Table}
use Rattle.zn_lines.specs.Session.{line_step}
use Rattle.zn_lines.specs.Transcript.{Transcript, stop, with_text, first_given, more_given, line_then, last_piece, transcript_from, pieces, transcript_at, is_newline, NotNewline, OneLine}

pub with_text-append : (a b : List ℕ) (t : Transcript) → with_text a (with_text b t) ≡ with_text (a ++ b) t
with_text-append a b t = ap (λ text. record t { text = text }) (sym (append_assoc a b t.text))

-- pieces are never none
onto_some : (b : ℕ) (parts : List (List ℕ)) (newline : Bool) → (piece : List ℕ) × (more : List (List ℕ)) × (cond newline ([] ∷ parts) (onto_first b parts) ≡ piece ∷ more)
onto_some b parts true = ([], parts, refl)
onto_some b [] false = (b ∷ [], [], refl)
onto_some b (part ∷ parts) false = (b ∷ part, parts, refl)

pub some_piece : (bytes : List ℕ) → (piece : List ℕ) × (more : List (List ℕ)) × (slice_split is_newline bytes ≡ piece ∷ more)
some_piece [] = ([], [], refl)
some_piece (b ∷ bytes) = onto_some b (slice_split is_newline bytes) (is_newline b)

step_is : (givens : List (List ℕ)) (tail : Tail) (table : Table) (n : ℕ) (line piece : List ℕ) (more : List (List ℕ)) → length line ≤ 65536 → transcript_from givens tail table n (line ∷ piece ∷ more) ≡ line_then (first_given givens) (reading_of line) table n (λ after. transcript_from (more_given givens) tail after (n + 1) (piece ∷ more))
unfolding transcript_from
step_is givens tail table n line piece more fits =
    let short : ltb 65536 (length line) ≡ false = le-ltb _ _ fits in
    rw short refl

step_long : (givens : List (List ℕ)) (tail : Tail) (table : Table) (n : ℕ) (line : List ℕ) (more : List (List ℕ)) → 65536 < length line → transcript_from givens tail table n (line ∷ more) ≡ stop table (LineTooLong n)
unfolding transcript_from
step_long givens tail table n line [] long = rw (lt-ltb _ _ long) refl
step_long givens tail table n line (piece ∷ more) long = rw (lt-ltb _ _ long) refl

step_last : (givens : List (List ℕ)) (tail : Tail) (table : Table) (n : ℕ) (line : List ℕ) → length line ≤ 65536 → transcript_from givens tail table n (line ∷ []) ≡ last_piece (first_given givens) tail table n line
unfolding transcript_from
step_last givens tail table n line fits =
    let short : ltb 65536 (length line) ≡ false = le-ltb _ _ fits in
    rw short refl

-- bytes with no newline in front of others are the front of their first piece
first_grows : (line more first : List ℕ) (others : List (List ℕ)) → OneLine line → slice_split is_newline more ≡ first ∷ others → slice_split is_newline (line ++ more) ≡ (line ++ first) ∷ others
first_grows [] more first others one e = e
first_grows (b ∷ line) more first others one e =
    slice_split-cons_no is_newline b (line ++ more) (All-head NotNewline b line one)
    ∙ ap (onto_first b) (first_grows line more first others (All-tail NotNewline b line one) e)

-- a line, by how it is read
line_is : (givens : List (List ℕ)) (tail : Tail) (table : Table) (n : ℕ) (line more : List ℕ) → OneLine line → length line ≤ 65536 → transcript_at givens tail table n (line ++ 10 ∷ more) ≡ line_then (first_given givens) (reading_of line) table n (λ after. transcript_at (more_given givens) tail after (n + 1) more)
unfolding pieces
line_is givens tail table n line more one fits =
    let s = some_piece more in
    let cut : slice_split is_newline (line ++ 10 ∷ more) ≡ line ∷ s.0 ∷ s.1 = slice_split_at is_newline line 10 more one refl ∙ ap (λ ps. line ∷ ps) s.2 in
    ap (transcript_from givens tail table n) cut ∙ step_is givens tail table n line s.0 s.1 fits
    ∙ ap (λ ps. line_then (first_given givens) (reading_of line) table n (λ after. transcript_from (more_given givens) tail after (n + 1) ps)) (sym s.2)

-- a line of the grammar
pub line_read : (givens : List (List ℕ)) (tail : Tail) (table : Table) (n : ℕ) (l : Line) (line more : List ℕ) → OneLine line → length line ≤ 65536 → reading_of line ≡ Ok (Some l)
    → transcript_at givens tail table n (line ++ 10 ∷ more) ≡ with_text (line_step (first_given givens) table l).text (transcript_at (more_given givens) tail (line_step (first_given givens) table l).table (n + 1) more)
line_read givens tail table n l line more one fits reads =
    line_is givens tail table n line more one fits ∙ ap (λ r. line_then (first_given givens) r table n (λ after. transcript_at (more_given givens) tail after (n + 1) more)) reads

-- an empty line or a comment
pub line_passed : (givens : List (List ℕ)) (tail : Tail) (table : Table) (n : ℕ) (line more : List ℕ) → OneLine line → length line ≤ 65536 → reading_of line ≡ Ok None
    → transcript_at givens tail table n (line ++ 10 ∷ more) ≡ transcript_at (more_given givens) tail table (n + 1) more
line_passed givens tail table n line more one fits reads =
    line_is givens tail table n line more one fits ∙ ap (λ r. line_then (first_given givens) r table n (λ after. transcript_at (more_given givens) tail after (n + 1) more)) reads

-- a line outside the grammar
pub line_bad : (givens : List (List ℕ)) (tail : Tail) (table : Table) (n column : ℕ) (line more : List ℕ) → OneLine line → length line ≤ 65536 → reading_of line ≡ Err column
    → transcript_at givens tail table n (line ++ 10 ∷ more) ≡ stop table (BadLine n column)
line_bad givens tail table n column line more one fits reads =
    line_is givens tail table n line more one fits ∙ ap (λ r. line_then (first_given givens) r table n (λ after. transcript_at (more_given givens) tail after (n + 1) more)) reads

-- a line that is too long, with whatever follows
pub line_long : (givens : List (List ℕ)) (tail : Tail) (table : Table) (n : ℕ) (line more : List ℕ) → OneLine line → 65536 < length line → transcript_at givens tail table n (line ++ more) ≡ stop table (LineTooLong n)
unfolding pieces
line_long givens tail table n line more one long =
    let s = some_piece more in
    let far : 65536 < length (line ++ s.0) = omega (arith, length-append line s.0) in
    ap (transcript_from givens tail table n) (first_grows line more s.0 s.1 one s.2) ∙ step_long givens tail table n (line ++ s.0) s.1 far

-- what no newline ends
pub last_is : (givens : List (List ℕ)) (tail : Tail) (table : Table) (n : ℕ) (line : List ℕ) → OneLine line → length line ≤ 65536 → transcript_at givens tail table n line ≡ last_piece (first_given givens) tail table n line
unfolding pieces
last_is givens tail table n line one fits =
    ap (transcript_from givens tail table n) (slice_split_none is_newline line one) ∙ step_last givens tail table n line fits
