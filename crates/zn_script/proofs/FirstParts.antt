-- The first part of bytes that plus signs part, and the count in it.
use Rattle.std.proofs.Common.{◌≡◌, ◌≢◌, ℕ, suc, ◌+◌, ◌-◌, ◌*◌, ◌<◌, ◌≤◌, Bool, true, false, not, cond, eqb, leb, ◌&&◌, List, [], ◌∷◌, length, take, drop, get_or, Option, Some, None, refl, ap, sym, ◌∙◌, arith, subst, length-take}
use Rattle.std.specs.List.{position_or_len}
use Rattle.std.specs.Option.{option_and_then}
use Rattle.std.proofs.lemmas.Bool.{and_parts, and_from, cond-true, cond-false, ne_eqb}
use Rattle.std.proofs.lemmas.Bool.Decides.{nat_tests}
use Rattle.std.proofs.lemmas.List.Sums.{prefix_len-le-length}
use Rattle.std.proofs.lemmas.Option.{same_Some, none-some}
use Rattle.zn_base.proofs.DecimalLaws.{cond_taken}
use Rattle.zn_base.specs.Decimals.{is_digit, digits_on, number_in}
use Rattle.zn_model.specs.declared.limits.TheConstants.{MOST_BYTES}
use Rattle.zn_lines.specs.Grammar.{is_plus, is_hex, hex_worth, counted, part_of}
use Rattle.zn_script.specs.Data.{first_part}

-- ---- first parts

-- where the first part ends
abbrev pub place_in : List ℕ → ℕ
place_in bytes = position_or_len is_plus bytes

part_none : (b : ℕ) (bytes : List ℕ) → is_plus b ≡ true → first_part (b ∷ bytes) ≡ []
part_none b bytes plus = ap (λ t. take (cond (not t) (1 + place_in bytes) 0) (b ∷ bytes)) plus

place_more : (b : ℕ) (bytes : List ℕ) → is_plus b ≡ false → place_in (b ∷ bytes) ≡ 1 + place_in bytes
place_more b bytes other = ap (λ t. cond (not t) (1 + place_in bytes) 0) other

part_more : (b : ℕ) (bytes : List ℕ) → is_plus b ≡ false → first_part (b ∷ bytes) ≡ b ∷ first_part bytes
part_more b bytes other =
    let more : 1 + place_in bytes ≡ suc (place_in bytes) = omega arith in
    ap (λ n. take n (b ∷ bytes)) (place_more b bytes other ∙ more)

pub place_le : (bytes : List ℕ) → place_in bytes ≤ length bytes
place_le bytes = prefix_len-le-length _ bytes

-- ---- a count

-- a number with one more digit behind it, as long as it is at most max
abbrev pub with_digit : ℕ → ℕ → ℕ → Option ℕ
with_digit max n b = cond (is_digit b && leb (n * 10 + (b - 48)) max) (Some (n * 10 + (b - 48))) None

-- the number of digits behind a first one; none where that is a leading zero
abbrev pub number_behind : ℕ → ℕ → List ℕ → Option ℕ
number_behind max n [] = Some n
number_behind max n (b ∷ bytes) = cond (eqb n 0) None (digits_on max n (b ∷ bytes))

-- a digit is 0 where what it is worth is
zero-digit : (b : ℕ) → is_digit b ≡ true → eqb b 48 ≡ eqb (0 * 10 + (b - 48)) 0
zero-digit b digit = grind (arith, nat_tests)

hex-no_plus : (b : ℕ) → is_hex b ≡ true → is_plus b ≡ false
hex-no_plus b hex = grind (arith, nat_tests)

digit-no_plus : (b : ℕ) → is_digit b ≡ true → is_plus b ≡ false
digit-no_plus b digit = grind (arith, nat_tests)

none_either : (t : Bool) → ◌≡◌ {A = Option ℕ} (cond t None None) None
none_either true = refl
none_either false = refl

-- a first digit and those behind it, by whether it is one
behind_by : (b c : ℕ) (bytes : List ℕ) (max : ℕ) (digit small : Bool) → is_digit b ≡ digit
    → cond (eqb b 48) None (cond (digit && small) (digits_on max (0 * 10 + (b - 48)) (c ∷ bytes)) None)
    ≡ option_and_then (λ n. number_behind max n (c ∷ bytes)) (cond (digit && small) (Some (0 * 10 + (b - 48))) None)
behind_by b c bytes max true true is = ap (λ z. cond z None (digits_on max (0 * 10 + (b - 48)) (c ∷ bytes))) (zero-digit b is)
behind_by b c bytes max true false is = none_either (eqb b 48)
behind_by b c bytes max false small is = none_either (eqb b 48)

number-first : (max b : ℕ) (bytes : List ℕ) → number_in max (b ∷ bytes) ≡ option_and_then (λ n. number_behind max n bytes) (with_digit max 0 b)
unfolding number_in
number-first max b [] = alone (is_digit b && leb (0 * 10 + (b - 48)) max)
  where
    alone : (t : Bool) → cond t (Some (0 * 10 + (b - 48))) None ≡ option_and_then (λ n. number_behind max n []) (cond t (Some (0 * 10 + (b - 48))) None)
    alone true = refl
    alone false = refl
number-first max b (c ∷ bytes) = behind_by b c bytes max (is_digit b) (leb (0 * 10 + (b - 48)) max) refl

-- a digit that is one
with_digit-some : (max n b m : ℕ) → with_digit max n b ≡ Some m → (is_digit b ≡ true) × (n * 10 + (b - 48) ≡ m) × (leb (n * 10 + (b - 48)) max ≡ true)
with_digit-some max n b m is =
    let taken = cond_taken _ (Some (n * 10 + (b - 48))) m is in
    let parts = and_parts (is_digit b) _ taken.0 in
    (parts.0, same_Some _ m taken.1, parts.1)

-- ---- a count, digit by digit

-- no digits
pub count-missing : (max : ℕ) (bytes : List ℕ) → length bytes ≡ 0 → number_in max (first_part bytes) ≡ None
unfolding number_in
count-missing max [] none = refl
count-missing max (b ∷ bytes) none = absurd (omega arith)

-- a first byte that is no digit
pub count-refused : (max b : ℕ) (bytes rest : List ℕ) → bytes ≡ b ∷ rest → with_digit max 0 b ≡ None → number_in max (first_part bytes) ≡ None
unfolding number_in
count-refused max b bytes rest are refused = ap (λ bs. number_in max (first_part bs)) are ∙ by (is_plus b) refl
  where
    by : (plus : Bool) → is_plus b ≡ plus → number_in max (first_part (b ∷ rest)) ≡ None
    by true is = ap (number_in max) (part_none b rest is)
    by false is =
        ap (number_in max) (part_more b rest is) ∙ number-first max b (first_part rest)
        ∙ ap (option_and_then (λ n. number_behind max n (first_part rest))) refused

-- What is read of a count, up to a rest.
pub record IsCounted (max : ℕ) (bytes rest : List ℕ) (n at : ℕ) : Type 0 where
  pub digits : number_in max (first_part bytes) ≡ number_behind max n (first_part rest)
  pub place : place_in bytes ≡ at + place_in rest

-- a first digit
pub count-begun : (max b n : ℕ) (bytes rest : List ℕ) → bytes ≡ b ∷ rest → with_digit max 0 b ≡ Some n → IsCounted max bytes rest n 1
count-begun max b n bytes rest are found =
    let known = with_digit-some max 0 b n found in
    let other = digit-no_plus b known.0 in
    record {
      digits = ap (λ bs. number_in max (first_part bs)) are ∙ ap (number_in max) (part_more b rest other) ∙ number-first max b (first_part rest)
          ∙ ap (option_and_then (λ n. number_behind max n (first_part rest))) found;
      place = ap place_in are ∙ place_more b rest other;
    }

behind-digit : (max n b : ℕ) (bytes : List ℕ) → n ≢ 0 → is_plus b ≡ false → number_behind max n (first_part (b ∷ bytes)) ≡ digits_on max n (b ∷ first_part bytes)
behind-digit max n b bytes some other =
    ap (number_behind max n) (part_more b bytes other) ∙ cond-false (eqb n 0) None _ (ne_eqb n 0 some)

digits-behind : (max n : ℕ) (bytes : List ℕ) → n ≢ 0 → digits_on max n bytes ≡ number_behind max n bytes
digits-behind max n [] some = refl
digits-behind max n (b ∷ bytes) some = sym (cond-false (eqb n 0) None _ (ne_eqb n 0 some))

-- a byte behind other digits that is none
pub count-stopped : (max b n at : ℕ) (bytes rest more : List ℕ) → IsCounted max bytes rest n at → rest ≡ b ∷ more → is_plus b ≡ false → n ≢ 0 → with_digit max n b ≡ None → number_in max (first_part bytes) ≡ None
count-stopped max b n at bytes rest more so begins other some refused =
    so.digits ∙ ap (λ bs. number_behind max n (first_part bs)) begins ∙ behind-digit max n b more some other
    ∙ by (is_digit b && leb (n * 10 + (b - 48)) max) refused
  where
    by : (t : Bool) → cond t (Some (n * 10 + (b - 48))) None ≡ None → cond t (digits_on max (n * 10 + (b - 48)) (first_part more)) None ≡ None
    by true is = absurd (none-some _ (sym is))
    by false is = refl

-- a digit behind others
pub count-more : (max b n m at : ℕ) (bytes rest more : List ℕ) → IsCounted max bytes rest n at → rest ≡ b ∷ more → n ≢ 0 → with_digit max n b ≡ Some m → IsCounted max bytes more m (at + 1)
count-more max b n m at bytes rest more so begins some found =
    let known = with_digit-some max n b m found in
    let other = digit-no_plus b known.0 in
    let sum : m ≢ 0 = λ zero. some (omega (arith, known.1)) in
    let further : at + (1 + place_in more) ≡ at + 1 + place_in more = omega arith in
    record {
      digits = so.digits ∙ ap (λ bs. number_behind max n (first_part bs)) begins ∙ behind-digit max n b more some other
          ∙ cond-true _ _ _ (and_from _ _ known.0 known.2) ∙ ap (λ k. digits_on max k (first_part more)) known.1 ∙ digits-behind max m (first_part more) sum;
      place = so.place ∙ ap (λ bs. at + place_in bs) begins ∙ ap (λ k. at + k) (place_more b more other) ∙ further;
    }

-- ---- a part

-- what the first part of three bytes and more may be
first-of : (P : List ℕ → Type 0) (high low star : ℕ) (bytes : List ℕ) → P [] → P (high ∷ []) → P (high ∷ low ∷ []) → P (high ∷ low ∷ star ∷ first_part bytes) → P (first_part (high ∷ low ∷ star ∷ bytes))
first-of P high low star bytes none one two more = at_high (is_plus high) refl
  where
    at_star : (plus : Bool) → is_plus star ≡ plus → P (high ∷ low ∷ first_part (star ∷ bytes))
    at_star true is = subst P (ap (λ part. high ∷ low ∷ part) (sym (part_none star bytes is))) two
    at_star false is = subst P (ap (λ part. high ∷ low ∷ part) (sym (part_more star bytes is))) more

    at_low : (plus : Bool) → is_plus low ≡ plus → P (high ∷ first_part (low ∷ star ∷ bytes))
    at_low true is = subst P (ap (λ part. high ∷ part) (sym (part_none low (star ∷ bytes) is))) one
    at_low false is = subst P (ap (λ part. high ∷ part) (sym (part_more low (star ∷ bytes) is))) (at_star (is_plus star) refl)

    at_high : (plus : Bool) → is_plus high ≡ plus → P (first_part (high ∷ low ∷ star ∷ bytes))
    at_high true is = subst P (sym (part_none high (low ∷ star ∷ bytes) is)) none
    at_high false is = subst P (sym (part_more high (low ∷ star ∷ bytes) is)) (at_low (is_plus low) refl)

-- bytes that begin no part
refused-of : (high low star : ℕ) (bytes : List ℕ) → (is_hex high && is_hex low && eqb star 42) ≡ false → part_of (first_part (high ∷ low ∷ star ∷ bytes)) ≡ None
unfolding part_of
refused-of high low star bytes fails =
    first-of (λ part. part_of part ≡ None) high low star bytes refl refl refl (cond-false (is_hex high && is_hex low && eqb star 42) _ None fails)

-- bytes that begin one, before a count
begun-of : (high low : ℕ) (bytes : List ℕ) → is_hex high ≡ true → is_hex low ≡ true
    → part_of (first_part (high ∷ low ∷ 42 ∷ bytes)) ≡ counted (hex_worth high * 16 + hex_worth low) (number_in MOST_BYTES (first_part bytes))
unfolding part_of
begun-of high low bytes is_high is_low =
    ap part_of (part_more high (low ∷ 42 ∷ bytes) (hex-no_plus high is_high) ∙ ap (λ part. high ∷ part) (part_more low (42 ∷ bytes) (hex-no_plus low is_low)) ∙ ap (λ part. high ∷ low ∷ part) (part_more 42 bytes refl))
    ∙ cond-true _ _ None (and_from (is_hex high && is_hex low) true (and_from (is_hex high) (is_hex low) is_high is_low) refl)

-- fewer than three bytes
short-of : (part : List ℕ) → length part < 3 → part_of part ≡ None
unfolding part_of
short-of [] short = refl
short-of (high ∷ []) short = refl
short-of (high ∷ low ∷ []) short = refl
short-of (high ∷ low ∷ star ∷ digits) short = absurd (omega arith)

pub part-short : (bytes : List ℕ) → length bytes < 3 → part_of (first_part bytes) ≡ None
part-short bytes short = short-of (first_part bytes) (omega (arith, length-take (place_in bytes) bytes, place_le bytes))

refused-at : (bytes : List ℕ) → 3 ≤ length bytes → (is_hex (get_or bytes 0 0) && is_hex (get_or bytes 1 0) && eqb (get_or bytes 2 0) 42) ≡ false → part_of (first_part bytes) ≡ None
refused-at [] long fails = absurd (omega arith)
refused-at (high ∷ []) long fails = absurd (omega arith)
refused-at (high ∷ low ∷ []) long fails = absurd (omega arith)
refused-at (high ∷ low ∷ star ∷ bytes) long fails = refused-of high low star bytes fails

and-false : (t : Bool) → (t && false) ≡ false
and-false true = refl
and-false false = refl

-- a value that a test doesn't give
unless : (t : Bool) (n : ℕ) → None ≡ cond t (Some n) None → t ≡ false
unless true n is = absurd (none-some n is)
unless false n is = refl

-- a first byte that is no digit, a second one, and a third one that is no star
pub part-no_high : (bytes : List ℕ) → 3 ≤ length bytes → None ≡ cond (is_hex (get_or bytes 0 0)) (Some (hex_worth (get_or bytes 0 0))) None → part_of (first_part bytes) ≡ None
part-no_high bytes long is =
    refused-at bytes long (ap (λ t. t && is_hex (get_or bytes 1 0) && eqb (get_or bytes 2 0) 42) (unless _ _ is))

pub part-no_low : (bytes : List ℕ) → 3 ≤ length bytes → None ≡ cond (is_hex (get_or bytes 1 0)) (Some (hex_worth (get_or bytes 1 0))) None → part_of (first_part bytes) ≡ None
part-no_low bytes long is =
    refused-at bytes long (ap (λ t. is_hex (get_or bytes 0 0) && t && eqb (get_or bytes 2 0) 42) (unless _ _ is) ∙ ap (λ t. t && eqb (get_or bytes 2 0) 42) (and-false (is_hex (get_or bytes 0 0))))

pub part-no_star : (bytes : List ℕ) → 3 ≤ length bytes → get_or bytes 2 0 ≢ 42 → part_of (first_part bytes) ≡ None
part-no_star bytes long other =
    refused-at bytes long (ap (λ t. is_hex (get_or bytes 0 0) && is_hex (get_or bytes 1 0) && t) (ne_eqb _ 42 other) ∙ and-false _)

begun-at : (bytes : List ℕ) → 3 ≤ length bytes → is_hex (get_or bytes 0 0) ≡ true → is_hex (get_or bytes 1 0) ≡ true → get_or bytes 2 0 ≡ 42
    → part_of (first_part bytes) ≡ counted (hex_worth (get_or bytes 0 0) * 16 + hex_worth (get_or bytes 1 0)) (number_in MOST_BYTES (first_part (drop 3 bytes)))
begun-at [] long is_high is_low star = absurd (omega arith)
begun-at (high ∷ []) long is_high is_low star = absurd (omega arith)
begun-at (high ∷ low ∷ []) long is_high is_low star = absurd (omega arith)
begun-at (high ∷ low ∷ star ∷ bytes) long is_high is_low same =
    ap (λ b. part_of (first_part (high ∷ low ∷ b ∷ bytes))) same ∙ begun-of high low bytes is_high is_low

-- two digits and a star, before a count
pub part-begun : (bytes : List ℕ) (high low : ℕ) → 3 ≤ length bytes → Some high ≡ cond (is_hex (get_or bytes 0 0)) (Some (hex_worth (get_or bytes 0 0))) None
    → Some low ≡ cond (is_hex (get_or bytes 1 0)) (Some (hex_worth (get_or bytes 1 0))) None → get_or bytes 2 0 ≡ 42
    → part_of (first_part bytes) ≡ counted (high * 16 + low) (number_in MOST_BYTES (first_part (drop 3 bytes)))
part-begun bytes high low long is_high is_low star =
    let one = cond_taken (is_hex (get_or bytes 0 0)) _ high (sym is_high) in
    let two = cond_taken (is_hex (get_or bytes 1 0)) _ low (sym is_low) in
    begun-at bytes long one.0 two.0 star
    ∙ ap (λ n. counted (n * 16 + hex_worth (get_or bytes 1 0)) (number_in MOST_BYTES (first_part (drop 3 bytes)))) (same_Some _ high one.1)
    ∙ ap (λ n. counted (high * 16 + n) (number_in MOST_BYTES (first_part (drop 3 bytes)))) (same_Some _ low two.1)
