-- The words of a line, read one after another, each with the column where it begins. (own)
use Rattle.std.specs.Prelude.{ℕ, ◌+◌, ◌-◌, ◌==◌, Bool, List, [], ◌∷◌, length, Option, Some, None, Result, Ok, Err}
use Rattle.std.specs.List.{slice_split}

-- the byte 32
abbrev pub is_blank : ℕ → Bool
is_blank b = b == 32

-- What is left of a line: its words, and the column where the first of them begins, or would.
pub record Left : Type 0 where
  pub column : ℕ
  pub words : List (List ℕ)

-- one reading after another: the first that does not fit decides the column
infixl 10 ◌>>=◌
-- a value is handed to the next reading, and a column is the result at once
abbrev pub ◌>>=◌ : {A B : Type 0} → Result A ℕ → (A → Result B ℕ) → Result B ℕ
(Ok x) >>= f = f x
(Err e) >>= f = Err e

-- a value that a word gives, or the column where it does not fit
abbrev pub or_column : {A : Type 0} → Option A → ℕ → Left → Result (A × Left) ℕ
or_column None column left = Err column
or_column (Some x) column left = Ok (x, left)

-- what is left behind a word that begins at the column
abbrev pub behind : ℕ → List ℕ → List (List ℕ) → Left
behind column word words = record { column = column + length word + 1; words = words }

-- the next word, read so; a missing word stands behind the line, whose last word no blank follows
abbrev pub next_of : {A : Type 0} → (List ℕ → Option A) → ℕ → List (List ℕ) → Result (A × Left) ℕ
next_of read column [] = Err (column - 1)
next_of read column (word ∷ words) = or_column (read word) column (behind column word words)

-- the first word that is left, read so, and what is left after it
abbrev pub next : {A : Type 0} → (List ℕ → Option A) → Left → Result (A × Left) ℕ
next read left = next_of read left.column left.words

-- a value that a word gives, and what is left behind it; without one the word is left too
abbrev pub or_none : {A : Type 0} → Option A → Left → Left → Result (Option A × Left) ℕ
or_none None left rest = Ok (None, left)
or_none (Some x) left rest = Ok (Some x, rest)

-- the next word, where it can be read so
abbrev pub optional_of : {A : Type 0} → (List ℕ → Option A) → ℕ → List (List ℕ) → Result (Option A × Left) ℕ
optional_of read column [] = Ok (None, record { column = column; words = [] })
optional_of read column (word ∷ words) =
    or_none (read word) (record { column = column; words = word ∷ words }) (behind column word words)

-- the first word that is left, where it can be read so, and what is left then: never a fault
abbrev pub optional : {A : Type 0} → (List ℕ → Option A) → Left → Result (Option A × Left) ℕ
optional read left = optional_of read left.column left.words

-- no word too many
abbrev pub none_of : {A : Type 0} → A → ℕ → List (List ℕ) → Result A ℕ
none_of value column [] = Ok value
none_of value column (word ∷ words) = Err column

-- the value, where no word is left
abbrev pub no_more : {A : Type 0} → A → Left → Result A ℕ
no_more value left = none_of value left.column left.words

-- the words of a whole line, parted by single blanks
abbrev pub words_of : List ℕ → Left
words_of line = record { column = 1; words = slice_split is_blank line }
