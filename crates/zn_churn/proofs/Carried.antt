-- Lines that are carried out one after another.
use Rattle.std.proofs.Common.{◌≡◌, ◌∙◌, ℕ, ◌+◌, List, [], ◌∷◌, Option, Result, Ok, Err, refl, sym, ap, subst}
use Rattle.zn_lines.specs.Grammar.{reading_of}
use Rattle.zn_lines.specs.Lines.{Line}
use Rattle.zn_lines.specs.declared.runs.Ending.{Ending}
use Rattle.zn_lines.specs.declared.runs.Ending.TheVariants.{BadLine}
use Rattle.zn_lines.specs.Table.{Table}
use Rattle.zn_run.specs.States.{MachineState, HasRisen}
use Rattle.zn_churn.specs.Churning.{Through, through_line, table_of, unless_bad, carried}
use Rattle.zn_churn.specs.Lines.{IsAnswered, AnswerMeans, HaltMeans}
use Rattle.zn_churn.specs.Tally.{counted}
use Rattle.zn_churn.specs.declared.churning.Halt.{Halt}
use Rattle.zn_churn.specs.declared.churning.Halt.TheVariants.{Ended, Broken, Starved}
use Rattle.zn_churn.specs.declared.tally.Tally.{Tally}

no_line : (t : Through) → carried [] t ≡ Ok t
unfolding carried
no_line t = refl

first : (line : List ℕ) (lines : List (List ℕ)) (t : Through)
    → carried (line ∷ lines) t ≡ unless_bad (reading_of line) (t.tally.lines + 1) (carried lines (through_line line t))
unfolding carried
first line lines t = refl

bad_line : (line : List ℕ) (lines : List (List ℕ)) (t : Through) (column : ℕ) → reading_of line ≡ Err column
    → carried (line ∷ lines) t ≡ Err (BadLine (t.tally.lines + 1) column)
bad_line line lines t column is =
    first line lines t
    ∙ ap (λ (r : Result (Option Line) ℕ). unless_bad r (t.tally.lines + 1) (carried lines (through_line line t))) is

goes_by : (reading : Result (Option Line) ℕ) (number : ℕ) (follows : Result Through Ending)
    → ((column : ℕ) → reading ≡ Err column → ⊥) → unless_bad reading number follows ≡ follows
goes_by (Ok line) number follows no_bad = refl
goes_by (Err column) number follows no_bad = absurd (no_bad column refl)

good_line : (line : List ℕ) (lines : List (List ℕ)) (t : Through) → ((column : ℕ) → reading_of line ≡ Err column → ⊥)
    → carried (line ∷ lines) t ≡ carried lines (through_line line t)
good_line line lines t no_bad =
    first line lines t ∙ goes_by (reading_of line) (t.tally.lines + 1) (carried lines (through_line line t)) no_bad

-- a line is answered, and the others go on from there
pub goes_on : (line told reply : List ℕ) (lines rest : List (List ℕ)) (before after : Tally) (old new : MachineState)
    → lines ≡ line ∷ rest → IsAnswered line told old new → reply ≡ told → after ≡ counted before line reply
    → carried lines (record { table = old.table; tally = before }) ≡ carried rest (record { table = new.table; tally = after })
goes_on line told reply lines rest before after old new begins a same counts =
    let t : Through = record { table = old.table; tally = before } in
    ap (λ (l : List (List ℕ)). carried l t) begins
    ∙ good_line line rest t a.reads
    ∙ ap (λ (r : List ℕ). carried rest (record { table = table_of old.table line; tally = counted before line r })) (sym a.reply)
    ∙ ap (λ (b : Table). carried rest (record { table = b; tally = counted before line told })) (sym a.table)
    ∙ ap (λ (y : Tally). carried rest (record { table = new.table; tally = y }))
    (ap (λ (r : List ℕ). counted before line r) (sym same) ∙ sym counts)

-- no line is left
pub comes_to : (lines : List (List ℕ)) (t : Through) → lines ≡ [] → carried lines t ≡ Ok t
comes_to lines t none = ap (λ (l : List (List ℕ)). carried l t) none ∙ no_line t

-- a line isn't answered, and that is what all lines come to
pub halts : (halt : Halt) (line : List ℕ) (lines rest : List (List ℕ)) (tally : Tally) (begun old new : MachineState)
    → lines ≡ line ∷ rest → old.breaks ≡ begun.breaks → AnswerMeans halt (tally.lines + 1) line old new
    → HaltMeans halt (carried lines (record { table = old.table; tally = tally })) begun new
halts (Ended ending) line lines rest tally begun old new begins same m =
    let t : Through = record { table = old.table; tally = tally } in
    ap (λ (l : List (List ℕ)). carried l t) begins ∙ bad_line line rest t m.0 m.1 ∙ ap Err (sym m.2)
halts (Broken number) line lines rest tally begun old new begins same m = subst (λ (n : ℕ). HasRisen n new.breaks) same m
halts Starved line lines rest tally begun old new begins same m = m

-- what other lines come to as well
pub halts_as : {X : Type 0} (halt : Halt) (one other : Result X Ending) (begun new : MachineState) → other ≡ one
    → HaltMeans halt one begun new → HaltMeans halt other begun new
halts_as halt one other begun new same m = rw same m
