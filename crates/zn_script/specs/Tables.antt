-- Tables of words.
use Rattle.std.specs.Prelude.{ℕ, if◌then◌else◌, List, [], ◌∷◌, Option, Some, None}
use Rattle.std.specs.Str.{bytes_eq}

-- what a word stands for in a table, whose entries each have a word and a value: the first with that word counts
unfoldable pub named_in : {E X : Type 0} → (E → List ℕ) → (E → X) → List E → List ℕ → Option X
named_in word_of value [] word = None
named_in word_of value (entry ∷ entries) word =
    if bytes_eq word (word_of entry) then Some (value entry) else named_in word_of value entries word
