-- Bytes as runs of equal bytes, as replies tell them. (own)
use Rattle.std.specs.Prelude.{ℕ, ◌+◌, ◌/◌, ◌%◌, ◌==◌, List, [], ◌∷◌, ◌++◌, codes, nat_lt, replicate, if◌then◌else◌}
use Rattle.std.specs.List.{flat_map}
use Rattle.std.specs.Fmt.{decimal}
use Rattle.zn_base.specs.Texts.{◌⧺◌}

-- A byte so many times over.
pub record Run : Type 0 where
  pub byte : ℕ
  pub count : ℕ

-- the bytes that runs stand for
abbrev pub bytes_of : List Run → List ℕ
bytes_of runs = flat_map (λ run. replicate run.count run.byte) runs

-- one more byte in front
abbrev pub onto_run : ℕ → List Run → List Run
onto_run b [] = record { byte = b; count = 1 } ∷ []
onto_run b (run ∷ runs) =
    if b == run.byte then record { byte = b; count = run.count + 1 } ∷ runs
    else record { byte = b; count = 1 } ∷ run ∷ runs

-- the maximal runs of equal bytes
unfoldable pub runs_of : List ℕ → List Run
runs_of [] = []
runs_of (b ∷ bytes) = onto_run b (runs_of bytes)

-- a hexadecimal digit in lower case
abbrev pub hex_digit : ℕ → ℕ
hex_digit n = if nat_lt n 10 then 48 + n else 87 + n

-- a byte as two hexadecimal digits
abbrev pub hex : ℕ → List ℕ
hex b = hex_digit (b / 16) ∷ hex_digit (b % 16) ∷ []

-- the byte as two hexadecimal digits, an asterisk, and the count in decimal digits
abbrev pub run_text : Run → List ℕ
run_text run = hex run.byte ⧺ codes "*" ⧺ decimal run.count

-- the same behind a plus sign
abbrev pub plus_run : Run → List ℕ
plus_run run = codes "+" ⧺ run_text run

-- the runs, joined by plus signs
abbrev pub runs_text : List Run → List ℕ
runs_text [] = []
runs_text (run ∷ runs) = run_text run ++ flat_map plus_run runs

-- the text that means these bytes, with the fewest parts
abbrev pub data_text : List ℕ → List ℕ
data_text bytes = runs_text (runs_of bytes)
