-- The rows that `clap` finds, each of which an id has at most once.
use Rattle.std.proofs.Common.{◌≡◌, ◌∙◌, ℕ, ◌+◌, ◌||◌, Bool, true, false, cond, List, [], ◌∷◌, ◌++◌, Some, None, refl, ap, sym, zero-add, arith}
use Rattle.std.specs.List.{count_by}
use Rattle.std.specs.Str.{bytes_eq}
use Rattle.std.proofs.lemmas.List.{append-nil}
use Rattle.std.proofs.lemmas.List.Sums.{sum_by-append, sum_by-cons}
use Rattle.clap.specs.Walk.{Row, Text, at_row, has_row, more_values, with_values, without}
use Rattle.clap.specs.declared.builder.value_parser.Reading.{Reading}
use Rattle.clap.specs.declared.parser.matches.ValueSource.{ValueSource}

-- how often an id has a row
abbrev pub count_rows : Text → List Row → ℕ
count_rows id rows = count_by (λ (r : Row). bytes_eq r.id id) rows

-- a row, counted
abbrev counted : Text → Row → ℕ
counted id r = cond (bytes_eq r.id id) 1 0

-- one more row
pub count_rows-push : (id : Text) (rows : List Row) (r : Row) → count_rows id (rows ++ r ∷ []) ≡ count_rows id rows + counted id r
count_rows-push id rows r = sum_by-append (counted id) rows (r ∷ []) ∙ ap (λ n. count_rows id rows + n) (zero-add (counted id r))

-- an id without a row
pub absent : (id : Text) (rows : List Row) → count_rows id rows ≡ 0 → has_row id rows ≡ false
absent id [] none = refl
absent id (r ∷ rows) none = go (bytes_eq r.id id) refl (sym (sum_by-cons (counted id) r rows) ∙ none) (absent id rows)
  where
    go : (b : Bool) → bytes_eq r.id id ≡ b → cond b 1 0 + count_rows id rows ≡ 0 → (count_rows id rows ≡ 0 → has_row id rows ≡ false) → has_row id (r ∷ rows) ≡ false
    go true is sum rest = absurd (omega arith)
    go false is sum rest = rw is (rest (omega arith))

or_false : (a b : Bool) → (a || b) ≡ false → (a ≡ false) × (b ≡ false)
or_false true b e = absurd (cc e)
or_false false b e = (refl, e)

-- a change of a row that isn't there leaves all rows, and what is missing comes last
at_missing : (id : Text) (change : Row → List Row) (missing rows : List Row) → has_row id rows ≡ false → at_row id change missing rows ≡ rows ++ missing
at_missing id change missing [] none = refl
at_missing id change missing (r ∷ rows) none =
    let parts = or_false (bytes_eq r.id id) (has_row id rows) none in
    let other : bytes_eq r.id id ≡ false = parts.0 in
    rw other (ap (λ (rs : List Row). r ∷ rs) (at_missing id change missing rows parts.1))

-- a row of values
abbrev pub new_row : Text → Reading → ValueSource → List Text → Row
new_row id how source values = record { id = id; values = values; count = None; source = Some source; reading = how }

-- the first use of an id adds a row
pub row_added : (id : Text) (how : Reading) (source : ValueSource) (values : List Text) (rows : List Row) → has_row id rows ≡ false
    → with_values id how source values (without id rows) ≡ rows ++ new_row id how source values ∷ []
row_added id how source values rows none =
    ap (with_values id how source values) (at_missing id (λ _. []) [] rows none ∙ append-nil rows)
    ∙ at_missing id (more_values source values) (new_row id how source values ∷ []) rows none

-- and so does a default
pub default_added : (id : Text) (how : Reading) (source : ValueSource) (values : List Text) (rows : List Row) → has_row id rows ≡ false
    → with_values id how source values rows ≡ rows ++ new_row id how source values ∷ []
default_added id how source values rows none = at_missing id (more_values source values) (new_row id how source values ∷ []) rows none
