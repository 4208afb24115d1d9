-- The names of zones' files are ASCII.
use Rattle.std.proofs.Common.{◌≡◌, ℕ, zero, suc, ◌/◌, ◌<◌, List, [], ◌∷◌, arith}
use Rattle.std.specs.Str.{IsAscii}
use Rattle.zn_truth.specs.declared.Kind.{Kind}
use Rattle.zn_truth.specs.declared.Kind.TheVariants.{Conventional, Sequential}
use Rattle.zn_stand.specs.ZoneNames.{last_digit, six_digits, zone_name, read_only_name, offline_name}

ascii_none : IsAscii []
ascii_none i = omega arith

ascii_more : (x : ℕ) (xs : List ℕ) → x < 128 → IsAscii xs → IsAscii (x ∷ xs)
ascii_more x xs small others zero = small
ascii_more x xs small others (suc i) = others i

digit_small : (n : ℕ) → last_digit n < 128
digit_small n = omega arith

-- six digits and what is behind them
abbrev digits_then : ℕ → List ℕ → List ℕ
digits_then z rest = last_digit (z / 100000) ∷ last_digit (z / 10000) ∷ last_digit (z / 1000) ∷ last_digit (z / 100) ∷ last_digit (z / 10) ∷ last_digit z ∷ rest

digits_on : (z : ℕ) (rest : List ℕ) → IsAscii rest → IsAscii (digits_then z rest)
digits_on z rest ascii =
    let one = ascii_more (last_digit z) rest (digit_small z) ascii in
    let two = ascii_more (last_digit (z / 10)) (last_digit z ∷ rest) (digit_small (z / 10)) one in
    let three = ascii_more (last_digit (z / 100)) (last_digit (z / 10) ∷ last_digit z ∷ rest) (digit_small (z / 100)) two in
    let four = ascii_more (last_digit (z / 1000)) (last_digit (z / 100) ∷ last_digit (z / 10) ∷ last_digit z ∷ rest) (digit_small (z / 1000)) three in
    let five = ascii_more (last_digit (z / 10000)) (last_digit (z / 1000) ∷ last_digit (z / 100) ∷ last_digit (z / 10) ∷ last_digit z ∷ rest) (digit_small (z / 10000)) four in
    ascii_more (last_digit (z / 100000)) (last_digit (z / 10000) ∷ last_digit (z / 1000) ∷ last_digit (z / 100) ∷ last_digit (z / 10) ∷ last_digit z ∷ rest) (digit_small (z / 100000)) five

-- four characters and what is behind them
four_on : (a b c d : ℕ) (rest : List ℕ) → a < 128 → b < 128 → c < 128 → d < 128 → IsAscii rest → IsAscii (a ∷ b ∷ c ∷ d ∷ rest)
four_on a b c d rest p q r s ascii = ascii_more a (b ∷ c ∷ d ∷ rest) p (ascii_more b (c ∷ d ∷ rest) q (ascii_more c (d ∷ rest) r (ascii_more d rest s ascii)))

three : IsAscii (46 ∷ 114 ∷ 111 ∷ [])
three = ascii_more 46 (114 ∷ 111 ∷ []) (omega arith) (ascii_more 114 (111 ∷ []) (omega arith) (ascii_more 111 [] (omega arith) ascii_none))

four : IsAscii (46 ∷ 111 ∷ 102 ∷ 102 ∷ [])
four = four_on 46 111 102 102 [] (omega arith) (omega arith) (omega arith) (omega arith) ascii_none

pub name_ascii : (kind : Kind) (z : ℕ) → IsAscii (zone_name kind z)
unfolding zone_name six_digits
name_ascii Conventional z = four_on 99 110 118 45 (digits_then z []) (omega arith) (omega arith) (omega arith) (omega arith) (digits_on z [] ascii_none)
name_ascii Sequential z = four_on 115 101 113 45 (digits_then z []) (omega arith) (omega arith) (omega arith) (omega arith) (digits_on z [] ascii_none)

pub read_only_ascii : (kind : Kind) (z : ℕ) → IsAscii (read_only_name kind z)
unfolding read_only_name zone_name six_digits
read_only_ascii Conventional z = four_on 99 110 118 45 (digits_then z (46 ∷ 114 ∷ 111 ∷ [])) (omega arith) (omega arith) (omega arith) (omega arith) (digits_on z (46 ∷ 114 ∷ 111 ∷ []) three)
read_only_ascii Sequential z = four_on 115 101 113 45 (digits_then z (46 ∷ 114 ∷ 111 ∷ [])) (omega arith) (omega arith) (omega arith) (omega arith) (digits_on z (46 ∷ 114 ∷ 111 ∷ []) three)

pub offline_ascii : (kind : Kind) (z : ℕ) → IsAscii (offline_name kind z)
unfolding offline_name zone_name six_digits
offline_ascii Conventional z = four_on 99 110 118 45 (digits_then z (46 ∷ 111 ∷ 102 ∷ 102 ∷ [])) (omega arith) (omega arith) (omega arith) (omega arith) (digits_on z (46 ∷ 111 ∷ 102 ∷ 102 ∷ []) four)
offline_ascii Sequential z = four_on 115 101 113 45 (digits_then z (46 ∷ 111 ∷ 102 ∷ 102 ∷ [])) (omega arith) (omega arith) (omega arith) (omega arith) (digits_on z (46 ∷ 111 ∷ 102 ∷ 102 ∷ []) four)
