-- Words that are decimal numbers: each number has one, and each is read as its number.
use Rattle.std.proofs.Common.{◌≡◌, ℕ, ◌+◌, ◌-◌, ◌*◌, ◌^◌, ◌<◌, ◌≤◌, Bool, true, false, cond, leb, eqb, List, [], ◌∷◌, length, get_or, Option, Some, None, refl, ap, sym, ◌∙◌, arith, rules, inl, inr}
use Rattle.std.specs.Fmt.{decimal}
use Rattle.std.specs.List.{list_all}
use Rattle.std.proofs.lemmas.Bool.{cond-true, cond-false, cases_lt, and_parts, and_from, eq-eqb, ne_eqb, eqb-false, le-leb, leb-true}
use Rattle.std.proofs.lemmas.Fmt.{decimal_digit, decimal_nonempty, first_decimal, digits_decimal, digits_value-decimal, decimal-digits_value}
use Rattle.std.proofs.lemmas.Option.{same_Some, none-some}
use Rattle.std.proofs.lemmas.Str.Parse.{IsNumeralModel, numerals_by_fold}
use Rattle.zn_base.specs.Decimals.{is_digit, digits_on, number_in}

-- digits alone
abbrev pub all_digits : List ℕ → Bool
all_digits bytes = list_all is_digit bytes

-- the number that digits give behind a number
abbrev pub value_on : ℕ → List ℕ → ℕ
value_on n [] = n
value_on n (b ∷ bytes) = value_on (n * 10 + (b - 48)) bytes

pub digits_are : IsNumeralModel (λ ds. all_digits ds ≡ true) (value_on 0)
digits_are = numerals_by_fold _ (search rules) value_on (search rules)

-- ---- digits behind a number

pub value_on-ge : (n : ℕ) (bytes : List ℕ) → n ≤ value_on n bytes
value_on-ge n [] = omega arith
value_on-ge n (b ∷ bytes) = omega (arith, value_on-ge (n * 10 + (b - 48)) bytes)

-- a choice that is not nothing
pub cond_taken : {A : Type 0} (test : Bool) (o : Option A) (x : A) → cond test o None ≡ Some x → (test ≡ true) × (o ≡ Some x)
cond_taken true o x is = (refl, is)
cond_taken false o x is = absurd (none-some x is)

pub cond_passed : {A : Type 0} (test : Bool) (o : Option A) (x : A) → cond test None o ≡ Some x → (test ≡ false) × (o ≡ Some x)
cond_passed true o x is = absurd (none-some x is)
cond_passed false o x is = (refl, is)

-- digits whose number is within the limit are read as it
pub digits_on-within : (max n : ℕ) (bytes : List ℕ) → all_digits bytes ≡ true → value_on n bytes ≤ max → digits_on max n bytes ≡ Some (value_on n bytes)
digits_on-within max n [] digits within = refl
digits_on-within max n (b ∷ bytes) digits within =
    let parts = and_parts (is_digit b) (all_digits bytes) digits in
    let small = le-leb (n * 10 + (b - 48)) max (omega (arith, value_on-ge (n * 10 + (b - 48)) bytes)) in
    cond-true _ _ _ (and_from (is_digit b) _ parts.0 small) ∙ digits_on-within max (n * 10 + (b - 48)) bytes parts.1 within

-- what is read as a number is digits of that number
pub digits_on-some : (max n value : ℕ) (bytes : List ℕ) → n ≤ max → digits_on max n bytes ≡ Some value → (all_digits bytes ≡ true) × (value_on n bytes ≡ value) × (value ≤ max)
digits_on-some max n value [] within is =
    let same = same_Some n value is in
    (refl, same, omega arith)
digits_on-some max n value (b ∷ bytes) within is =
    let taken = cond_taken _ (digits_on max (n * 10 + (b - 48)) bytes) value is in
    let parts = and_parts (is_digit b) (leb (n * 10 + (b - 48)) max) taken.0 in
    let rest = digits_on-some max (n * 10 + (b - 48)) value bytes (leb-true _ _ parts.1) taken.1 in
    (and_from (is_digit b) (all_digits bytes) parts.0 rest.0, rest.1, rest.2)

-- ---- no leading zero

-- Without a leading zero a number is its digits.
pub number_in-empty : (max : ℕ) (word : List ℕ) → length word ≡ 0 → number_in max word ≡ None
unfolding number_in
number_in-empty max [] empty = refl
number_in-empty max (b ∷ bytes) empty = absurd (omega arith)

pub number_in-leading_zero : (max : ℕ) (word : List ℕ) → 1 < length word → get_or word 0 0 ≡ 48 → number_in max word ≡ None
unfolding number_in
number_in-leading_zero max [] long zero = absurd (omega arith)
number_in-leading_zero max (b ∷ []) long zero = absurd (omega arith)
number_in-leading_zero max (b ∷ c ∷ bytes) long zero = cond-true (eqb b 48) None _ (eq-eqb b 48 zero)

pub number_in-digits : (max : ℕ) (word : List ℕ) → 0 < length word → (get_or word 0 0 ≡ 48 → length word ≡ 1) → number_in max word ≡ digits_on max 0 word
unfolding number_in
number_in-digits max [] some plain = absurd (omega arith)
number_in-digits max (b ∷ []) some plain = refl
number_in-digits max (b ∷ c ∷ bytes) some plain =
    cond-false (eqb b 48) None _ (ne_eqb b 48 (λ e. absurd (omega (arith, plain e))))

-- What is read as a number has no leading zero.
pub number_in-plain : (max value : ℕ) (word : List ℕ) → number_in max word ≡ Some value → (0 < length word) × (get_or word 0 0 ≡ 48 → length word ≡ 1) × (digits_on max 0 word ≡ Some value)
unfolding number_in
number_in-plain max value [] is = absurd (none-some value is)
number_in-plain max value (b ∷ []) is = (omega arith, λ _. refl, is)
number_in-plain max value (b ∷ c ∷ bytes) is =
    let passed = cond_passed (eqb b 48) (digits_on max 0 (b ∷ c ∷ bytes)) value is in
    (omega arith, λ e. absurd (eqb-false b 48 passed.0 e), passed.1)

-- ---- numbers as words

decimal-plain : (n : ℕ) → n < 2 ^ 64 → get_or (decimal n) 0 0 ≡ 48 → length (decimal n) ≡ 1
decimal-plain n small zero_first =
    elim (cases_lt n 10) [ inl below ↦ ap length (decimal_digit n below) | inr above ↦ absurd (omega (arith, first_decimal n (omega arith) small)) ]

-- each number within a limit is read from its digits
pub number_in-decimal : (max n : ℕ) → max < 2 ^ 64 → n ≤ max → number_in max (decimal n) ≡ Some n
number_in-decimal max n limit within =
    let small : n < 2 ^ 64 = omega arith in
    let value = digits_value-decimal digits_are n small in
    number_in-digits max (decimal n) (decimal_nonempty n small) (decimal-plain n small)
    ∙ digits_on-within max 0 (decimal n) (digits_decimal digits_are n small) (omega (arith, value))
    ∙ ap Some value

-- and from no other word
pub decimal-number_in : (max n : ℕ) (word : List ℕ) → max < 2 ^ 64 → number_in max word ≡ Some n → (word ≡ decimal n) × (n ≤ max)
decimal-number_in max n word limit is =
    let plain = number_in-plain max n word is in
    let read = digits_on-some max 0 n word (omega arith) plain.2 in
    let same = decimal-digits_value digits_are word read.0 plain.0 plain.1 (omega (arith, read.1)) in
    (sym same ∙ ap decimal read.1, read.2)
