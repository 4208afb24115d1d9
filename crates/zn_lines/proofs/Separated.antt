-- Parts that are joined by a byte, which they lack.
use Rattle.std.proofs.Common.{◌≡◌, ℕ, ◌^◌, ◌<◌, Bool, true, false, not, ◌&&◌, eqb, List, [], ◌∷◌, ◌++◌, refl, ap, sym, ◌∙◌}
use Rattle.std.specs.Fmt.{decimal}
use Rattle.std.specs.List.{list_all, slice_split, onto_first, join_with_byte}
use Rattle.std.proofs.lemmas.Bool.{true≢false, and_parts, and_from, eqb-true, false_from_ne_true, not_from_false, not-true, cond-true, cond-false, eq-eqb}
use Rattle.std.proofs.lemmas.Fmt.{digits_decimal}
use Rattle.std.proofs.lemmas.List.Splits.{join_with_byte-slice_split}
use Rattle.zn_base.proofs.DecimalLaws.{digits_are}
use Rattle.zn_base.specs.Decimals.{is_digit}

-- no byte of these is c
abbrev pub lacks : ℕ → List ℕ → Bool
lacks c [] = true
lacks c (b ∷ bytes) = not (eqb b c) && lacks c bytes

abbrev pub all_lack : ℕ → List (List ℕ) → Bool
all_lack c [] = true
all_lack c (part ∷ parts) = lacks c part && all_lack c parts

-- bytes that pass a test lack each that does not
pub passing-lack : (test : ℕ → Bool) (c : ℕ) (bytes : List ℕ) → test c ≡ false → list_all test bytes ≡ true → lacks c bytes ≡ true
passing-lack test c [] fails pass = refl
passing-lack test c (b ∷ bytes) fails pass =
    let parts = and_parts (test b) (list_all test bytes) pass in
    let other : eqb b c ≡ true → ⊥ = λ e. true≢false (sym parts.0 ∙ ap test (eqb-true b c e) ∙ fails) in
    and_from (not (eqb b c)) _ (not_from_false _ (false_from_ne_true _ other)) (passing-lack test c bytes fails parts.1)

pub lacks-append : (c : ℕ) (front rest : List ℕ) → lacks c front ≡ true → lacks c rest ≡ true → lacks c (front ++ rest) ≡ true
lacks-append c [] rest in_front in_rest = in_rest
lacks-append c (b ∷ front) rest in_front in_rest =
    let parts = and_parts (not (eqb b c)) (lacks c front) in_front in
    and_from (not (eqb b c)) _ parts.0 (lacks-append c front rest parts.1 in_rest)

pub lacks-join : (c by : ℕ) (parts : List (List ℕ)) → not (eqb by c) ≡ true → all_lack c parts ≡ true → lacks c (join_with_byte by parts) ≡ true
lacks-join c by [] other lack = refl
lacks-join c by (part ∷ []) other lack = (and_parts (lacks c part) true lack).0
lacks-join c by (part ∷ next ∷ parts) other lack =
    let both = and_parts (lacks c part) (all_lack c (next ∷ parts)) lack in
    lacks-append c part _ both.0 (and_from (not (eqb by c)) _ other (lacks-join c by (next ∷ parts) other both.1))

-- a part alone
pub slice_split-alone : (c : ℕ) (part : List ℕ) → lacks c part ≡ true → slice_split (λ b. eqb b c) part ≡ part ∷ []
slice_split-alone c [] lack = refl
slice_split-alone c (b ∷ bytes) lack =
    let both = and_parts (not (eqb b c)) (lacks c bytes) lack in
    cond-false (eqb b c) _ _ (not-true _ both.0) ∙ ap (onto_first b) (slice_split-alone c bytes both.1)

-- a part before the byte
pub slice_split-before : (c : ℕ) (part rest : List ℕ) → lacks c part ≡ true → slice_split (λ b. eqb b c) (part ++ c ∷ rest) ≡ part ∷ slice_split (λ b. eqb b c) rest
slice_split-before c [] rest lack = cond-true (eqb c c) _ _ (eq-eqb c c refl)
slice_split-before c (b ∷ bytes) rest lack =
    let both = and_parts (not (eqb b c)) (lacks c bytes) lack in
    cond-false (eqb b c) _ _ (not-true _ both.0) ∙ ap (onto_first b) (slice_split-before c bytes rest both.1)

-- joined parts come apart again
pub slice_split-join : (c : ℕ) (part : List ℕ) (parts : List (List ℕ)) → all_lack c (part ∷ parts) ≡ true → slice_split (λ b. eqb b c) (join_with_byte c (part ∷ parts)) ≡ part ∷ parts
slice_split-join c part [] lack = slice_split-alone c part (and_parts (lacks c part) true lack).0
slice_split-join c part (next ∷ parts) lack =
    let both = and_parts (lacks c part) (all_lack c (next ∷ parts)) lack in
    slice_split-before c part _ both.0 ∙ ap (λ ps. part ∷ ps) (slice_split-join c next parts both.1)

-- and what comes apart so is the parts, joined
pub join-slice_split : (c : ℕ) (bytes : List ℕ) (parts : List (List ℕ)) → slice_split (λ b. eqb b c) bytes ≡ parts → bytes ≡ join_with_byte c parts
join-slice_split c bytes parts is = sym (join_with_byte-slice_split c bytes) ∙ ap (join_with_byte c) is

-- ---- digits among other bytes

-- no other byte than a digit is in a number
pub decimal-lacks : (c n : ℕ) → is_digit c ≡ false → n < 2 ^ 64 → lacks c (decimal n) ≡ true
decimal-lacks c n other small = passing-lack is_digit c (decimal n) other (digits_decimal digits_are n small)
