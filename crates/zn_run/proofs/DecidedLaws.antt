-- A run that a line has ended ends so whatever follows.
use Rattle.std.proofs.Common.{◌≡◌, ℕ, ◌+◌, Bool, true, false, cond, ltb, lt-ltb, ltb-true, List, [], ◌∷◌, ◌++◌, length, length-append, Option, Some, None, Result, Ok, Err, refl, ap, sym, ◌∙◌, arith}
use Rattle.std.specs.List.{onto_first, slice_split}
use Rattle.zn_lines.specs.declared.runs.Tail.{Tail}
use Rattle.zn_lines.specs.declared.runs.Tail.TheVariants.{More}
use Rattle.zn_lines.specs.declared.runs.Ending.TheVariants.{LineTooLong, Unread}
use Rattle.zn_lines.specs.Lines.{Line}
use Rattle.zn_lines.specs.Grammar.{reading_of}
use Rattle.zn_lines.specs.Table.{Table}
use Rattle.zn_lines.specs.Session.{line_step}
use Rattle.zn_lines.specs.Transcript.{Transcript, stop, with_text, first_given, more_given, line_then, transcript_from, pieces, transcript_at, is_newline, IsDecided}
use Rattle.zn_run.specs.Statuses.{IsScriptFault}
use Rattle.zn_run.proofs.TranscriptLaws.{some_piece}

-- the last piece goes on, and others follow
extended : List (List ℕ) → List ℕ → List (List ℕ) → List (List ℕ)
extended [] first others = first ∷ others
extended (piece ∷ []) first others = (piece ++ first) ∷ others
extended (line ∷ piece ∷ more) first others = line ∷ extended (piece ∷ more) first others

onto_extended : (b : ℕ) (newline : Bool) (parts : List (List ℕ)) (first : List ℕ) (others : List (List ℕ)) → (p : List ℕ) (ps : List (List ℕ)) → parts ≡ p ∷ ps
    → cond newline ([] ∷ extended parts first others) (onto_first b (extended parts first others)) ≡ extended (cond newline ([] ∷ parts) (onto_first b parts)) first others
unfolding extended
onto_extended b newline [] first others p ps is = absurd (cc)
onto_extended b true (piece ∷ parts) first others p ps is = refl
onto_extended b false (piece ∷ []) first others p ps is = refl
onto_extended b false (piece ∷ q ∷ parts) first others p ps is = refl

split_extended : (bytes more first : List ℕ) (others : List (List ℕ)) → slice_split is_newline more ≡ first ∷ others → slice_split is_newline (bytes ++ more) ≡ extended (slice_split is_newline bytes) first others
unfolding extended
split_extended [] more first others is = is
split_extended (b ∷ bytes) more first others is =
    let s = some_piece bytes in
    ap (λ parts. cond (is_newline b) ([] ∷ parts) (onto_first b parts)) (split_extended bytes more first others is)
    ∙ onto_extended b (is_newline b) (slice_split is_newline bytes) first others s.0 s.1 s.2

some_extended : (piece : List ℕ) (more : List (List ℕ)) (first : List ℕ) (others : List (List ℕ)) → (p : List ℕ) × (ps : List (List ℕ)) × (extended (piece ∷ more) first others ≡ p ∷ ps)
unfolding extended
some_extended piece [] first others = (piece ++ first, others, refl)
some_extended piece (q ∷ more) first others = (piece, extended (q ∷ more) first others, refl)

last_stays : (givens : List (List ℕ)) (tail : Tail) (table : Table) (n : ℕ) (piece first : List ℕ) (others : List (List ℕ)) (long : Bool) → ltb 65536 (length piece) ≡ long
    → IsDecided (cond long (stop table (LineTooLong n)) (stop table Unread)).ending → transcript_from givens tail table n ((piece ++ first) ∷ others) ≡ cond long (stop table (LineTooLong n)) (stop table Unread)
unfolding transcript_from
last_stays givens tail table n piece first [] true is decided =
    let far : ltb 65536 (length (piece ++ first)) ≡ true = lt-ltb _ _ (omega (arith, ltb-true _ _ is, length-append piece first)) in rw far refl
last_stays givens tail table n piece first (q ∷ others) true is decided =
    let far : ltb 65536 (length (piece ++ first)) ≡ true = lt-ltb _ _ (omega (arith, ltb-true _ _ is, length-append piece first)) in rw far refl
last_stays givens tail table n piece first others false is decided = absurd decided

line_stays : (given : List ℕ) (table : Table) (n : ℕ) (reading : Result (Option Line) ℕ) (long : Bool) (f g : Table → Transcript) → ((x : Table) → IsDecided (g x).ending → f x ≡ g x)
    → IsDecided (cond long (stop table (LineTooLong n)) (line_then given reading table n g)).ending
    → cond long (stop table (LineTooLong n)) (line_then given reading table n f) ≡ cond long (stop table (LineTooLong n)) (line_then given reading table n g)
line_stays given table n reading true f g same decided = refl
line_stays given table n (Err column) false f g same decided = refl
line_stays given table n (Ok None) false f g same decided = same table decided
line_stays given table n (Ok (Some line)) false f g same decided = ap (with_text (line_step given table line).text) (same (line_step given table line).table decided)

pieces_stay : (givens : List (List ℕ)) (parts : List (List ℕ)) (tail : Tail) (table : Table) (n : ℕ) (first : List ℕ) (others : List (List ℕ)) → IsDecided (transcript_from givens More table n parts).ending
    → transcript_from givens tail table n (extended parts first others) ≡ transcript_from givens More table n parts
unfolding transcript_from extended
pieces_stay givens [] tail table n first others decided = absurd decided
pieces_stay givens (piece ∷ []) tail table n first others decided = last_stays givens tail table n piece first others (ltb 65536 (length piece)) refl decided
pieces_stay givens (line ∷ piece ∷ parts) tail table n first others decided =
    let s = some_extended piece parts first others in
    ap (λ ps. transcript_from givens tail table n (line ∷ ps)) s.2
    ∙ line_stays (first_given givens) table n (reading_of line) (ltb 65536 (length line))
    (λ x. transcript_from (more_given givens) tail x (n + 1) (s.0 ∷ s.1)) (λ x. transcript_from (more_given givens) More x (n + 1) (piece ∷ parts))
    (λ x d. ap (transcript_from (more_given givens) tail x (n + 1)) (sym s.2) ∙ pieces_stay (more_given givens) (piece ∷ parts) tail x (n + 1) first others d) decided

-- once a line has ended the run, no bytes behind it matter
pub decided_stays : (givens : List (List ℕ)) (tail : Tail) (table : Table) (n : ℕ) (bytes more : List ℕ) → IsDecided (transcript_at givens More table n bytes).ending → transcript_at givens tail table n (bytes ++ more) ≡ transcript_at givens More table n bytes
unfolding pieces
decided_stays givens tail table n bytes more decided =
    let s = some_piece more in
    ap (transcript_from givens tail table n) (split_extended bytes more s.0 s.1 s.2) ∙ pieces_stay givens (slice_split is_newline bytes) tail table n s.0 s.1 decided

-- ---- endings where no more is known

last_fault : (table : Table) (n : ℕ) (long : Bool) → IsScriptFault (cond long (stop table (LineTooLong n)) (stop table Unread)).ending → IsDecided (cond long (stop table (LineTooLong n)) (stop table Unread)).ending
last_fault table n true fault = tt
last_fault table n false fault = absurd fault

line_fault : (given : List ℕ) (table : Table) (n : ℕ) (reading : Result (Option Line) ℕ) (long : Bool) (f : Table → Transcript) → ((x : Table) → IsScriptFault (f x).ending → IsDecided (f x).ending)
    → IsScriptFault (cond long (stop table (LineTooLong n)) (line_then given reading table n f)).ending → IsDecided (cond long (stop table (LineTooLong n)) (line_then given reading table n f)).ending
line_fault given table n reading true f so fault = tt
line_fault given table n (Err column) false f so fault = tt
line_fault given table n (Ok None) false f so fault = so table fault
line_fault given table n (Ok (Some line)) false f so fault = so (line_step given table line).table fault

-- where the script ended the run and no more is known of what follows, no bytes behind matter
pub fault_decided : (givens : List (List ℕ)) (parts : List (List ℕ)) (table : Table) (n : ℕ) → IsScriptFault (transcript_from givens More table n parts).ending → IsDecided (transcript_from givens More table n parts).ending
unfolding transcript_from
fault_decided givens [] table n fault = absurd fault
fault_decided givens (piece ∷ []) table n fault = last_fault table n (ltb 65536 (length piece)) fault
fault_decided givens (line ∷ piece ∷ parts) table n fault =
    line_fault (first_given givens) table n (reading_of line) (ltb 65536 (length line)) (λ x. transcript_from (more_given givens) More x (n + 1) (piece ∷ parts)) (λ x. fault_decided (more_given givens) (piece ∷ parts) x (n + 1)) fault
