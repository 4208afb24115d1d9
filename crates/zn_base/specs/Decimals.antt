-- Decimal numbers as words. (own)
use Rattle.std.specs.Prelude.{ℕ, ◌+◌, ◌-◌, ◌*◌, ◌==◌, ◌&&◌, Bool, List, [], ◌∷◌, Option, Some, None, nat_le, if◌then◌else◌}

-- a character from 0 to 9
abbrev pub is_digit : ℕ → Bool
is_digit b = nat_le 48 b && nat_le b 57

-- digits behind a number, as long as it is at most max
abbrev pub digits_on : ℕ → ℕ → List ℕ → Option ℕ
digits_on max n [] = Some n
digits_on max n (b ∷ bytes) =
    if is_digit b && nat_le (n * 10 + (b - 48)) max then digits_on max (n * 10 + (b - 48)) bytes else None

-- a decimal number of at most max, without a leading zero
unfoldable pub number_in : ℕ → List ℕ → Option ℕ
number_in max [] = None
number_in max (b ∷ []) = digits_on max 0 (b ∷ [])
number_in max (b ∷ c ∷ bytes) = if b == 48 then None else digits_on max 0 (b ∷ c ∷ bytes)
