-- What replies add up to. (own)
use Rattle.std.specs.Prelude.{ℕ, ◌+◌, ◌-◌, ◌*◌, ◌≤◌, ◌&&◌, Bool, true, false, List, [], ◌∷◌, Option, Some, None, drop, nat_eq, nat_le, codes, if◌then◌else◌}
use Rattle.std.specs.List.{starts_with}
use Rattle.std.specs.Fmt.{decimal}
use Rattle.zn_base.specs.Decimals.{is_digit}
use Rattle.zn_base.specs.Texts.{◌⧺◌}
use Rattle.zn_churn.specs.declared.tally.Tally.{Tally}
use Rattle.zn_churn.specs.declared.tally.TheConstants.{MOST_COUNT}

-- ---- what one reply tells

-- whether some bytes begin with others
abbrev pub begins : List ℕ → List ℕ → Bool
begins front bytes = starts_with nat_eq bytes front

-- a number with one more digit behind it: none where the byte is no digit, or the number would be too great
abbrev pub digit_behind : ℕ → ℕ → Option ℕ
digit_behind n b = if is_digit b && nat_le (n * 10 + (b - 48)) MOST_COUNT then Some (n * 10 + (b - 48)) else None

-- the number that digits make behind a number, up to the first byte that is none
abbrev pub number_on : ℕ → List ℕ → ℕ
number_on n [] = n
number_on n (b ∷ bytes) =
    if is_digit b && nat_le (n * 10 + (b - 48)) MOST_COUNT then number_on (n * 10 + (b - 48)) bytes else n

-- the count behind `ok`, and 0 where the reply tells none
abbrev pub count_in : List ℕ → ℕ
count_in reply = if begins (codes "ok ") reply then number_on 0 (drop 3 reply) else 0

-- how many bytes a line read
abbrev pub read_by : List ℕ → List ℕ → ℕ
read_by line reply = if begins (codes "read ") line then count_in reply else 0

-- a reply that doesn't begin with `ok`
abbrev pub is_other : List ℕ → Bool
is_other [] = false
is_other (b ∷ bytes) = if begins (codes "ok") (b ∷ bytes) then false else true

-- 1 or 0
abbrev pub one_if : Bool → ℕ
one_if b = if b then 1 else 0

-- ---- what many add up to

-- that of no line
abbrev pub nothing : Tally
nothing = record { lines = 0; ok = 0; errors = 0; read = 0 }

-- that of one more line and its reply
abbrev pub counted : Tally → List ℕ → List ℕ → Tally
counted t line reply = record {
  lines = t.lines + 1;
  ok = t.ok + one_if (begins (codes "ok") reply);
  errors = t.errors + one_if (is_other reply);
  read = t.read + read_by line reply;
}

-- no line has more than one reply, or reads more than the greatest count
pub record IsWithin (t : Tally) : Type 0 where
  pub ok : t.ok ≤ t.lines
  pub errors : t.errors ≤ t.lines
  pub read : t.read ≤ t.lines * MOST_COUNT

-- ---- the summary

-- the line that tells it, behind the seed, the number of steps, and the blocks of the files in the end
abbrev pub summary_line : ℕ → ℕ → Tally → ℕ → List ℕ
summary_line seed steps t blocks =
    codes "churn seed=" ⧺ decimal seed ⧺ codes " steps=" ⧺ decimal steps ⧺ codes " lines=" ⧺ decimal t.lines
    ⧺ codes " ok=" ⧺ decimal t.ok ⧺ codes " errors=" ⧺ decimal t.errors ⧺ codes " read=" ⧺ decimal t.read
    ⧺ codes " blocks=" ⧺ decimal blocks ⧺ codes "\n"
