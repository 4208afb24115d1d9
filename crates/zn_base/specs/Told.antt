-- What calls take from a source and add to a sink, where the bytes are told (Some) and where they aren't (None). (own)
use Rattle.std.specs.Prelude.{◌≡◌, ℕ, List, [], ◌++◌, take, Option, Some, Result, MatchResult}
use Rattle.std.specs.Option.{option_map}

-- the told bytes, and then these
abbrev pub told_and : Option (List ℕ) → List ℕ → Option (List ℕ)
told_and told bytes = option_map (λ xs. xs ++ bytes) told

-- these bytes, and then the told ones
abbrev pub and_told : List ℕ → Option (List ℕ) → Option (List ℕ)
and_told bytes told = option_map (λ xs. bytes ++ xs) told

-- no told byte is left
abbrev pub IsAtEnd : Option (List ℕ) → Type 0
IsAtEnd told = (xs : List ℕ) → told ≡ Some xs → xs ≡ []

-- the sink has grown by these bytes
abbrev pub Grew : Option (List ℕ) → Option (List ℕ) → List ℕ → Type 0
Grew old new bytes = new ≡ told_and old bytes

-- the source has given these bytes
abbrev pub Gave : Option (List ℕ) → Option (List ℕ) → List ℕ → Type 0
Gave old new bytes = old ≡ and_told bytes new

-- one list begins with another
abbrev pub IsFront : List ℕ → List ℕ → Type 0
IsFront front whole = (rest : List ℕ) × (whole ≡ front ++ rest)

-- the sink has grown by a front of these bytes
abbrev pub GrewToward : Option (List ℕ) → Option (List ℕ) → List ℕ → Type 0
GrewToward old new due = (front : List ℕ) × IsFront front due × Grew old new front

-- what a write did: at Ok it took so many bytes of the piece, at Err none
abbrev pub WriteGrew : {E : Type 0} → Option (List ℕ) → Option (List ℕ) → Result ℕ E → List ℕ → Type 0
WriteGrew old new result piece = MatchResult result (λ n. Grew old new (take n piece)) (λ _. new ≡ old)

-- what a read did: at Ok it gave so many bytes, none only at the end, and at Err none
abbrev pub ReadGave : {E : Type 0} → Option (List ℕ) → Option (List ℕ) → Result ℕ E → List ℕ → Type 0
ReadGave old new result buf =
    MatchResult result (λ n. Gave old new (take n buf) × (n ≡ 0 → IsAtEnd new)) (λ _. new ≡ old)
