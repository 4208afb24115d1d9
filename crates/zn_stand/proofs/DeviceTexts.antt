-- The text of `device`: what is written is read, and nothing else.
use Rattle.std.proofs.Common.{◌≡◌, inl, inr, ℕ, suc, ◌+◌, ◌-◌, ◌^◌, ◌<◌, ◌≤◌, Bool, true, false, cond, not, ltb, leb, eqb, ◌&&◌, ◌==◌, List, [], ◌∷◌, ◌++◌, length, take, drop, get_or, Option, Some, None, Result, Ok, Err, refl, sym, ap, ◌∙◌, subst, arith, length-append, append_assoc, lit<}
use Rattle.std.specs.Prelude.{IsTrue, position, unwrap_or}
use Rattle.std.specs.Fmt.{decimal}
use Rattle.std.specs.List.{list_all, position_or_len}
use Rattle.std.specs.Option.{option_map}
use Rattle.std.specs.Str.{bytes_eq}
use Rattle.std.proofs.Math.Seq.{take-append_seam, drop-append_seam, drop-append-add, drop-cons, drop-length}
use Rattle.std.proofs.lemmas.List.{append-nil, drop-drop, take-append-drop, length-take-le, length-drop}
use Rattle.std.proofs.lemmas.List.Sums.{passes_at_first}
use Rattle.std.proofs.lemmas.Bool.{and_parts, and_from, cond-true, cond-false, lt-ltb, ltb-true, leb-true, eqb-true, eq-eqb, ne_eqb, le-ltb, not_from_false, and_right, cases_lt}
use Rattle.std.proofs.lemmas.Bool.Decides.{nat_tests}
use Rattle.std.proofs.lemmas.Fmt.{decimal_nonempty, decimal_digit, first_decimal, digits_decimal, length-decimal-le}
use Rattle.std.proofs.lemmas.Slice.Eq.{bytes_eq-Decides}
use Rattle.zn_base.specs.Decimals.{is_digit, number_in}
use Rattle.zn_base.proofs.DecimalLaws.{all_digits, digits_are, number_in-decimal, decimal-number_in}
use Rattle.zn_truth.specs.declared.Shape.{Shape}
use Rattle.zn_stand.specs.declared.numbers.Geometry.{Geometry}
use Rattle.zn_stand.specs.declared.numbers.TheConstants.{LONGEST_TEXT, GREATEST_NUMBER}
use Rattle.zn_stand.specs.DeviceText.{first_line, zones_label, conv_label, blocks_label, capacity_label, open_label, active_label, newline, line_text, device_text, ◌>>=◌, line_at, is_number, capped_number, is_line, number_of, behind_first, number_line, shape_read, lines_read, is_within, limited, text_read}

-- ---- lines

-- no newline among the bytes
abbrev is_plain : List ℕ → Bool
is_plain words = list_all (λ b. not (b == newline)) words

abbrev is_end : ℕ → Bool
is_end b = b == newline

newline_at : (words rest : List ℕ) → is_plain words ≡ true → position_or_len is_end (words ++ newline ∷ rest) ≡ length words
newline_at [] rest plain = refl
newline_at (b ∷ words) rest plain =
    let parts = and_parts (not (b == newline)) (is_plain words) plain in
    let more = newline_at words rest parts.1 in
    cond-true (not (b == newline)) (1 + position_or_len is_end (words ++ newline ∷ rest)) 0 parts.0 ∙ omega (arith, more)

-- the first line of bytes
abbrev line_of : List ℕ → Option (List ℕ)
line_of bytes = option_map (λ n. take n bytes) (position is_end bytes)

first_of : (words rest : List ℕ) → is_plain words ≡ true → line_of (words ++ newline ∷ rest) ≡ Some words
first_of words rest plain =
    let bytes : List ℕ = words ++ newline ∷ rest in
    let at : position_or_len is_end bytes ≡ length words = newline_at words rest plain in
    let within : length words < length bytes = omega (arith, length-append words (newline ∷ rest)) in
    ap (λ n. option_map (λ n. take n bytes) (cond (ltb n (length bytes)) (Some n) None)) at
    ∙ ap (option_map (λ n. take n bytes)) (cond-true (ltb (length words) (length bytes)) (Some (length words)) None (lt-ltb (length words) (length bytes) within))
    ∙ ap Some (take-append_seam words (newline ∷ rest))

pub line_written : (text : List ℕ) (at : ℕ) (words rest : List ℕ) → is_plain words ≡ true → drop at text ≡ words ++ newline ∷ rest → line_at text at ≡ Some words
line_written text at words rest plain is = ap line_of is ∙ first_of words rest plain

behind_line : (text : List ℕ) (at : ℕ) (words rest : List ℕ) → drop at text ≡ words ++ newline ∷ rest → drop (at + length words + 1) text ≡ rest
behind_line text at words rest is =
    let sum : at + length words + 1 ≡ at + (length words + 1) = omega arith in
    ap (λ n. drop n text) sum ∙ sym (drop-drop (length words + 1) at text) ∙ ap (drop (length words + 1)) is ∙ drop-append-add words (newline ∷ rest) 1

-- what the first line of bytes was taken from
found_in : (bytes words : List ℕ) (n : ℕ) → n ≡ position_or_len is_end bytes → (b : Bool) → ltb n (length bytes) ≡ b → option_map (λ n. take n bytes) (cond b (Some n) None) ≡ Some words → bytes ≡ words ++ newline ∷ drop (length words + 1) bytes
found_in bytes words n at false test is = absurd (cc)
found_in bytes words n at true test is =
    let within : n < length bytes = ltb-true n (length bytes) test in
    let taken : take n bytes ≡ words = cc in
    let len : length words ≡ n = ap length (sym taken) ∙ length-take-le n bytes (omega arith) in
    let ends : eqb (get_or bytes n 0) newline ≡ true = subst (λ m. eqb (get_or bytes m 0) newline ≡ true) (sym at) (passes_at_first is_end bytes 0 (subst (λ m. m < length bytes) at within)) in
    let byte : get_or bytes n 0 ≡ newline = eqb-true (get_or bytes n 0) newline ends in
    let back : drop n bytes ≡ get_or bytes n 0 ∷ drop (suc n) bytes = drop-cons bytes n 0 within in
    let next : suc n ≡ length words + 1 = omega arith in
    sym (take-append-drop n bytes) ∙ ap (λ front. front ++ drop n bytes) taken ∙ ap (λ rest. words ++ rest) (back ∙ ap (λ b. b ∷ drop (suc n) bytes) byte ∙ ap (λ m. newline ∷ drop m bytes) next)

line_found : (text : List ℕ) (at : ℕ) (words : List ℕ) → line_at text at ≡ Some words → drop at text ≡ words ++ newline ∷ drop (at + length words + 1) text
line_found text at words is =
    let sum : at + (length words + 1) ≡ at + length words + 1 = omega arith in
    found_in (drop at text) words (position_or_len is_end (drop at text)) refl (ltb (position_or_len is_end (drop at text)) (length (drop at text))) refl is
    ∙ ap (λ rest. words ++ newline ∷ rest) (drop-drop (length words + 1) at text ∙ ap (λ n. drop n text) sum)

-- ---- numbers

digit_plain : (b : ℕ) → is_digit b ≡ true → not (b == newline) ≡ true
digit_plain b digit =
    let low : 48 ≤ b = leb-true 48 b (and_parts (leb 48 b) (leb b 57) digit).0 in
    let apart : b ≡ newline → ⊥ = λ same. omega arith in
    not_from_false (b == newline) (ne_eqb b newline apart)

digits_plain : (bytes : List ℕ) → all_digits bytes ≡ true → is_plain bytes ≡ true
digits_plain [] h = refl
digits_plain (b ∷ bytes) h =
    let parts = and_parts (is_digit b) (all_digits bytes) h in
    and_from (not (b == newline)) (is_plain bytes) (digit_plain b parts.0) (digits_plain bytes parts.1)

plain_both : (front back : List ℕ) → is_plain front ≡ true → is_plain back ≡ true → is_plain (front ++ back) ≡ true
plain_both [] back h k = k
plain_both (b ∷ front) back h k =
    let parts = and_parts (not (b == newline)) (is_plain front) h in
    and_from (not (b == newline)) (is_plain (front ++ back)) parts.0 (plain_both front back parts.1 k)

no_leading_zero : (n : ℕ) → n < 2 ^ 64 → not (ltb 1 (length (decimal n)) && eqb (get_or (decimal n) 0 0) 48) ≡ true
no_leading_zero n small = elim (cases_lt n 1) [
  | inl zero ↦ let is : decimal n ≡ 48 ∷ [] = subst (λ m. decimal m ≡ 48 ∷ []) (omega arith) (decimal_digit 0 (omega arith)) in
      subst (λ bytes. not (ltb 1 (length bytes) && eqb (get_or bytes 0 0) 48) ≡ true) (sym is) refl
  | inr above ↦ let first : 48 < get_or (decimal n) 0 0 = first_decimal n (omega arith) small in
      not_from_false _ (and_right (ltb 1 (length (decimal n))) _ (ne_eqb (get_or (decimal n) 0 0) 48 (λ e. omega arith)))
]

decimal_is_number : (n : ℕ) → n < 2 ^ 64 → is_number (decimal n) ≡ true
decimal_is_number n small =
    let some : 0 < length (decimal n) = decimal_nonempty n small in
    let nonempty : not (length (decimal n) == 0) ≡ true = not_from_false _ (ne_eqb (length (decimal n)) 0 (λ e. omega arith)) in
    and_from _ _ (and_from _ _ nonempty (digits_decimal digits_are n small)) (no_leading_zero n small)

capped_decimal : (n : ℕ) → n ≤ GREATEST_NUMBER → capped_number (decimal n) ≡ n
capped_decimal n within = ap (λ o. unwrap_or o GREATEST_NUMBER) (number_in-decimal GREATEST_NUMBER n (lit< tt) within)

-- a capped number below the greatest is written so
capped_found : (word : List ℕ) (n : ℕ) (o : Option ℕ) → number_in GREATEST_NUMBER word ≡ o → unwrap_or o GREATEST_NUMBER ≡ n → n < GREATEST_NUMBER → word ≡ decimal n
capped_found word n None is capped below = absurd (omega arith)
capped_found word n (Some m) is capped below = (decimal-number_in GREATEST_NUMBER n word (lit< tt) (is ∙ ap Some capped)).0

-- ---- lines with a label

-- the line, and what is behind it
pub record IsRead (line : ℕ) (label text : List ℕ) (at n : ℕ) (rest : List ℕ) : Type 0 where
  pub next : ℕ
  pub is : number_line line label text at ≡ Ok (n, next)
  pub behind : drop next text ≡ rest
  pub after : next ≡ at + length label + length (decimal n) + 1

is_line_of : (label : List ℕ) (n : ℕ) → n < 2 ^ 64 → is_line label (label ++ decimal n) ≡ true
is_line_of label n small = and_from _ _
    (subst (λ front. bytes_eq label front ≡ true) (sym (take-append_seam label (decimal n))) ((bytes_eq-Decides label label).1 refl))
    (subst (λ word. is_number word ≡ true) (sym (drop-append_seam label (decimal n))) (decimal_is_number n small))

pub read_written : (line : ℕ) (label text : List ℕ) (at n : ℕ) (rest : List ℕ) → is_plain label ≡ true → n ≤ GREATEST_NUMBER → drop at text ≡ line_text label n ++ rest → IsRead line label text at n rest
unfolding number_line
read_written line label text at n rest plain within is =
    let small : n < 2 ^ 64 = omega arith in
    let words : List ℕ = label ++ decimal n in
    let whole : drop at text ≡ words ++ newline ∷ rest = is ∙ append_assoc label (decimal n ++ newline ∷ []) rest ∙ ap (λ back. label ++ back) (append_assoc (decimal n) (newline ∷ []) rest) ∙ sym (append_assoc label (decimal n) (newline ∷ rest)) in
    let found : line_at text at ≡ Some words = line_written text at words rest (plain_both label (decimal n) plain (digits_plain (decimal n) (digits_decimal digits_are n small))) whole in
    let number : capped_number (drop (length label) words) ≡ n = ap capped_number (drop-append_seam label (decimal n)) ∙ capped_decimal n within in
    record {
      next = at + length words + 1;
      is = ap (number_of line label at) found ∙ cond-true (is_line label words) (Ok (capped_number (drop (length label) words), at + length words + 1)) (Err line) (is_line_of label n small) ∙ ap (λ m. Ok (m, at + length words + 1)) number;
      behind = behind_line text at words rest whole;
      after = omega (arith, length-append label (decimal n));
    }

-- a line that was read, by its words
number_taken : (line : ℕ) (label text : List ℕ) (at : ℕ) (words : List ℕ) (p : ℕ × ℕ) (b : Bool) → line_at text at ≡ Some words → is_line label words ≡ b → cond b (Ok (capped_number (drop (length label) words), at + length words + 1)) (Err line) ≡ Ok p → p.0 < GREATEST_NUMBER → drop at text ≡ line_text label p.0 ++ drop p.1 text
number_taken line label text at words p false found test is below = absurd (cc)
number_taken line label text at words p true found test is below =
    let pair : ◌≡◌ {A = ℕ × ℕ} (capped_number (drop (length label) words), at + length words + 1) p = cc in
    let number : capped_number (drop (length label) words) ≡ p.0 = ap (λ (q : ℕ × ℕ). q.0) pair in
    let next : at + length words + 1 ≡ p.1 = ap (λ (q : ℕ × ℕ). q.1) pair in
    let parts = and_parts (bytes_eq label (take (length label) words)) (is_number (drop (length label) words)) test in
    let front : label ≡ take (length label) words = (bytes_eq-Decides label (take (length label) words)).0 parts.0 in
    let word : drop (length label) words ≡ decimal p.0 = capped_found (drop (length label) words) p.0 (number_in GREATEST_NUMBER (drop (length label) words)) refl number below in
    let both : words ≡ label ++ decimal p.0 = sym (take-append-drop (length label) words) ∙ ap (λ f. f ++ drop (length label) words) (sym front) ∙ ap (λ b. label ++ b) word in
    let rest : List ℕ = drop p.1 text in
    line_found text at words found ∙ ap (λ n. words ++ newline ∷ drop n text) next ∙ ap (λ w. w ++ newline ∷ rest) both
    ∙ append_assoc label (decimal p.0) (newline ∷ rest) ∙ ap (λ back. label ++ back) (sym (append_assoc (decimal p.0) (newline ∷ []) rest)) ∙ sym (append_assoc label (decimal p.0 ++ newline ∷ []) rest)

number_taken_of : (line : ℕ) (label text : List ℕ) (at : ℕ) (p : ℕ × ℕ) (o : Option (List ℕ)) → line_at text at ≡ o → number_of line label at o ≡ Ok p → p.0 < GREATEST_NUMBER → drop at text ≡ line_text label p.0 ++ drop p.1 text
number_taken_of line label text at p None found is below = absurd (cc)
number_taken_of line label text at p (Some words) found is below = number_taken line label text at words p (is_line label words) found refl is below

pub line_taken : (line : ℕ) (label text : List ℕ) (at : ℕ) (p : ℕ × ℕ) → number_line line label text at ≡ Ok p → p.0 < GREATEST_NUMBER → drop at text ≡ line_text label p.0 ++ drop p.1 text
unfolding number_line
line_taken line label text at p is below = number_taken_of line label text at p (line_at text at) refl is below

first_taken : (text : List ℕ) (at : ℕ) (o : Option (List ℕ)) → line_at text 0 ≡ o → behind_first o ≡ Ok at → drop 0 text ≡ first_line ++ newline ∷ drop at text
first_taken text at None found is = absurd (cc)
first_taken text at (Some words) found is = among (bytes_eq words first_line) refl is
  where
    among : (b : Bool) → bytes_eq words first_line ≡ b → cond {A = Result ℕ ℕ} b (Ok (length words + 1)) (Err 1) ≡ Ok at → drop 0 text ≡ first_line ++ newline ∷ drop at text
    among false test is = absurd (cc)
    among true test is =
        let same : words ≡ first_line = (bytes_eq-Decides words first_line).0 test in
        let next : length words + 1 ≡ at = cc in
        let sum : 0 + length words + 1 ≡ at = omega arith in
        line_found text 0 words found ∙ ap (λ n. words ++ newline ∷ drop n text) sum ∙ ap (λ w. w ++ newline ∷ drop at text) same

-- ---- all lines

-- each number has a field that holds it
pub record AreHeld (geo : Geometry) : Type 0 where
  pub zones : geo.zones < GREATEST_NUMBER
  pub conv : geo.conv < GREATEST_NUMBER
  pub blocks : geo.shape.zone_blocks < GREATEST_NUMBER
  pub capacity : geo.shape.zone_capacity < GREATEST_NUMBER
  pub opens : geo.shape.max_open < GREATEST_NUMBER
  pub actives : geo.shape.max_active < GREATEST_NUMBER

lines_written : (geo : Geometry) → AreHeld geo → lines_read (device_text geo) ≡ Ok geo
unfolding lines_read shape_read device_text
lines_written geo held =
    let text : List ℕ = device_text geo in
    let l3 : List ℕ = line_text conv_label geo.conv in
    let l4 : List ℕ = line_text blocks_label geo.shape.zone_blocks in
    let l5 : List ℕ = line_text capacity_label geo.shape.zone_capacity in
    let l6 : List ℕ = line_text open_label geo.shape.max_open in
    let l7 : List ℕ = line_text active_label geo.shape.max_active in
    let r2 : List ℕ = line_text zones_label geo.zones ++ (l3 ++ (l4 ++ (l5 ++ (l6 ++ l7)))) in
    let e1 : behind_first (line_at text 0) ≡ Ok 8 = ap behind_first (line_written text 0 first_line r2 refl refl) in
    let s2 : IsRead 2 zones_label text 8 geo.zones (l3 ++ (l4 ++ (l5 ++ (l6 ++ l7)))) = read_written 2 zones_label text 8 geo.zones _ refl (omega (arith, held.zones)) refl in
    let s3 : IsRead 3 conv_label text s2.next geo.conv (l4 ++ (l5 ++ (l6 ++ l7))) = read_written 3 conv_label text s2.next geo.conv _ refl (omega (arith, held.conv)) s2.behind in
    let s4 : IsRead 4 blocks_label text s3.next geo.shape.zone_blocks (l5 ++ (l6 ++ l7)) = read_written 4 blocks_label text s3.next geo.shape.zone_blocks _ refl (omega (arith, held.blocks)) s3.behind in
    let s5 : IsRead 5 capacity_label text s4.next geo.shape.zone_capacity (l6 ++ l7) = read_written 5 capacity_label text s4.next geo.shape.zone_capacity _ refl (omega (arith, held.capacity)) s4.behind in
    let s6 : IsRead 6 open_label text s5.next geo.shape.max_open l7 = read_written 6 open_label text s5.next geo.shape.max_open _ refl (omega (arith, held.opens)) s5.behind in
    let s7 : IsRead 7 active_label text s6.next geo.shape.max_active [] = read_written 7 active_label text s6.next geo.shape.max_active [] refl (omega (arith, held.actives)) (s6.behind ∙ sym (append-nil l7)) in
    let last : length text - s6.next ≡ length l7 = sym (length-drop s6.next text) ∙ ap length s6.behind in
    let len : length l7 ≡ length active_label + (length (decimal geo.shape.max_active) + 1) = length-append active_label (decimal geo.shape.max_active ++ newline ∷ []) ∙ ap (λ n. length active_label + n) (length-append (decimal geo.shape.max_active) (newline ∷ [])) in
    let end : length text ≡ s7.next = omega (arith, s7.after) in
    let ended : eqb (length text) s7.next ≡ true = eq-eqb (length text) s7.next end in
    rw (e1, s2.is, s3.is, s4.is, s5.is, s6.is, s7.is, ended) refl

-- a reading that was handed on
record IsBound {A B : Type 0} (r : Result A ℕ) (f : A → Result B ℕ) (y : B) : Type 0 where
  x : A
  is : r ≡ Ok x
  next : f x ≡ Ok y

bound : {A B : Type 0} (r : Result A ℕ) (f : A → Result B ℕ) (y : B) → r >>= f ≡ Ok y → IsBound r f y
bound (Ok x) f y is = record { x = x; is = refl; next = is }
bound (Err line) f y is = absurd (cc)

-- what is read of the text from a line on
abbrev from_8 : List ℕ → Shape → ℕ → Result Shape ℕ
from_8 text shape at = cond (length text == at) (Ok shape) (Err 8)

abbrev from_7 : List ℕ → ℕ → ℕ → ℕ × ℕ → Result Shape ℕ
from_7 text blocks capacity opens = number_line 7 active_label text opens.1 >>= (λ actives. from_8 text (record { zone_blocks = blocks; zone_capacity = capacity; max_open = opens.0; max_active = actives.0 }) actives.1)

abbrev from_6 : List ℕ → ℕ → ℕ × ℕ → Result Shape ℕ
from_6 text blocks capacity = number_line 6 open_label text capacity.1 >>= from_7 text blocks capacity.0

abbrev from_5 : List ℕ → ℕ × ℕ → Result Shape ℕ
from_5 text blocks = number_line 5 capacity_label text blocks.1 >>= from_6 text blocks.0

abbrev with_shape : ℕ → ℕ → Shape → Result Geometry ℕ
with_shape zones conv shape = Ok (record { zones = zones; conv = conv; shape = shape })

abbrev from_4 : List ℕ → ℕ → ℕ × ℕ → Result Geometry ℕ
from_4 text zones conv = shape_read text conv.1 >>= with_shape zones conv.0

abbrev from_3 : List ℕ → ℕ × ℕ → Result Geometry ℕ
from_3 text zones = number_line 3 conv_label text zones.1 >>= from_4 text zones.0

abbrev from_2 : List ℕ → ℕ → Result Geometry ℕ
from_2 text at = number_line 2 zones_label text at >>= from_3 text

ended_at : (text : List ℕ) (shape found : Shape) (at : ℕ) (b : Bool) → eqb (length text) at ≡ b → cond {A = Result Shape ℕ} b (Ok shape) (Err 8) ≡ Ok found → (shape ≡ found) × (drop at text ≡ [])
ended_at text shape found at false test is = absurd (cc)
ended_at text shape found at true test is =
    let same : length text ≡ at = eqb-true (length text) at test in
    let equal : shape ≡ found = cc in
    (equal, subst (λ n. drop n text ≡ []) same (drop-length text))

lines_taken : (text : List ℕ) (geo : Geometry) → AreHeld geo → lines_read text ≡ Ok geo → text ≡ device_text geo
unfolding lines_read shape_read device_text
lines_taken text geo held is =
    let b1 : IsBound (behind_first (line_at text 0)) (from_2 text) geo = bound (behind_first (line_at text 0)) (from_2 text) geo is in
    let b2 : IsBound (number_line 2 zones_label text b1.x) (from_3 text) geo = bound (number_line 2 zones_label text b1.x) (from_3 text) geo b1.next in
    let b3 : IsBound (number_line 3 conv_label text b2.x.1) (from_4 text b2.x.0) geo = bound _ (from_4 text b2.x.0) geo b2.next in
    let whole : IsBound (shape_read text b3.x.1) (with_shape b2.x.0 b3.x.0) geo = bound _ (with_shape b2.x.0 b3.x.0) geo b3.next in
    let b4 : IsBound (number_line 4 blocks_label text b3.x.1) (from_5 text) whole.x = bound _ (from_5 text) whole.x whole.is in
    let b5 : IsBound (number_line 5 capacity_label text b4.x.1) (from_6 text b4.x.0) whole.x = bound _ (from_6 text b4.x.0) whole.x b4.next in
    let b6 : IsBound (number_line 6 open_label text b5.x.1) (from_7 text b4.x.0 b5.x.0) whole.x = bound _ (from_7 text b4.x.0 b5.x.0) whole.x b5.next in
    let shape : ℕ × ℕ → Shape = λ actives. record { zone_blocks = b4.x.0; zone_capacity = b5.x.0; max_open = b6.x.0; max_active = actives.0 } in
    let b7 : IsBound (number_line 7 active_label text b6.x.1) (λ actives. from_8 text (shape actives) actives.1) whole.x = bound _ (λ actives. from_8 text (shape actives) actives.1) whole.x b6.next in
    let end = ended_at text (shape b7.x) whole.x b7.x.1 (eqb (length text) b7.x.1) refl b7.next in
    let read : Geometry = record { zones = b2.x.0; conv = b3.x.0; shape = shape b7.x } in
    let outer : ◌≡◌ {A = Result Geometry ℕ} (Ok (record { zones = b2.x.0; conv = b3.x.0; shape = whole.x })) (Ok geo) = whole.next in
    let found : ◌≡◌ {A = Geometry} (record { zones = b2.x.0; conv = b3.x.0; shape = whole.x }) geo = cc (outer) in
    let same : read ≡ geo = ap (λ (s : Shape). record { zones = b2.x.0; conv = b3.x.0; shape = s }) end.0 ∙ found in
    let fields : AreHeld read = subst AreHeld (sym same) held in
    let t1 : drop 0 text ≡ first_line ++ newline ∷ drop b1.x text = first_taken text b1.x (line_at text 0) refl b1.is in
    let t2 : drop b1.x text ≡ line_text zones_label b2.x.0 ++ drop b2.x.1 text = line_taken 2 zones_label text b1.x b2.x b2.is fields.zones in
    let t3 : drop b2.x.1 text ≡ line_text conv_label b3.x.0 ++ drop b3.x.1 text = line_taken 3 conv_label text b2.x.1 b3.x b3.is fields.conv in
    let t4 : drop b3.x.1 text ≡ line_text blocks_label b4.x.0 ++ drop b4.x.1 text = line_taken 4 blocks_label text b3.x.1 b4.x b4.is fields.blocks in
    let t5 : drop b4.x.1 text ≡ line_text capacity_label b5.x.0 ++ drop b5.x.1 text = line_taken 5 capacity_label text b4.x.1 b5.x b5.is fields.capacity in
    let t6 : drop b5.x.1 text ≡ line_text open_label b6.x.0 ++ drop b6.x.1 text = line_taken 6 open_label text b5.x.1 b6.x b6.is fields.opens in
    let t7 : drop b6.x.1 text ≡ line_text active_label b7.x.0 ++ drop b7.x.1 text = line_taken 7 active_label text b6.x.1 b7.x b7.is fields.actives in
    let last : drop b6.x.1 text ≡ line_text active_label b7.x.0 = t7 ∙ ap (λ rest. line_text active_label b7.x.0 ++ rest) end.1 ∙ append-nil (line_text active_label b7.x.0) in
    t1 ∙ ap (λ rest. first_line ++ newline ∷ rest) (t2 ∙ ap (λ rest. line_text zones_label b2.x.0 ++ rest) (t3 ∙ ap (λ rest. line_text conv_label b3.x.0 ++ rest) (t4 ∙ ap (λ rest. line_text blocks_label b4.x.0 ++ rest) (t5 ∙ ap (λ rest. line_text capacity_label b5.x.0 ++ rest) (t6 ∙ ap (λ rest. line_text open_label b6.x.0 ++ rest) last)))))
    ∙ ap device_text same

-- ---- the limits

pub within_held : (geo : Geometry) → IsTrue (is_within geo) → AreHeld geo
unfolding is_within
within_held geo within = record {
  zones = grind (arith, nat_tests, within);
  conv = grind (arith, nat_tests, within);
  blocks = grind (arith, nat_tests, within);
  capacity = grind (arith, nat_tests, within);
  opens = grind (arith, nat_tests, within);
  actives = grind (arith, nat_tests, within);
}

-- a text of a geometry within the limits isn't too long
text_short : (geo : Geometry) → AreHeld geo → length (device_text geo) ≤ LONGEST_TEXT
unfolding device_text
text_short geo held =
    let line : (label : List ℕ) (n : ℕ) → n < GREATEST_NUMBER → length (line_text label n) ≤ length label + 11 = λ label n below.
    omega (arith, length-append label (decimal n ++ newline ∷ []), length-append (decimal n) (newline ∷ []), length-decimal-le 10 n (lit< tt) (omega arith) (omega arith)) in
    let l2 : List ℕ = line_text zones_label geo.zones in
    let l3 : List ℕ = line_text conv_label geo.conv in
    let l4 : List ℕ = line_text blocks_label geo.shape.zone_blocks in
    let l5 : List ℕ = line_text capacity_label geo.shape.zone_capacity in
    let l6 : List ℕ = line_text open_label geo.shape.max_open in
    let l7 : List ℕ = line_text active_label geo.shape.max_active in
    omega (
      arith,
      length-append l2 (l3 ++ (l4 ++ (l5 ++ (l6 ++ l7)))),
      length-append l3 (l4 ++ (l5 ++ (l6 ++ l7))),
      length-append l4 (l5 ++ (l6 ++ l7)),
      length-append l5 (l6 ++ l7),
      length-append l6 l7,
      line zones_label geo.zones held.zones,
      line conv_label geo.conv held.conv,
      line blocks_label geo.shape.zone_blocks held.blocks,
      line capacity_label geo.shape.zone_capacity held.capacity,
      line open_label geo.shape.max_open held.opens,
      line active_label geo.shape.max_active held.actives,
    )

-- ---- texts

pub text_is_read : (geo : Geometry) → IsTrue (is_within geo) → text_read (device_text geo) ≡ Ok geo
unfolding text_read
text_is_read geo within =
    let held : AreHeld geo = within_held geo within in
    let short : ltb LONGEST_TEXT (length (device_text geo)) ≡ false = le-ltb LONGEST_TEXT (length (device_text geo)) (text_short geo held) in
    cond-false (ltb LONGEST_TEXT (length (device_text geo))) (Err 8) _ short ∙ ap (λ r. r >>= limited) (lines_written geo held) ∙ cond-true (is_within geo) (Ok geo) (Err 0) within

limited_taken : (geo found : Geometry) (b : Bool) → is_within geo ≡ b → cond {A = Result Geometry ℕ} b (Ok geo) (Err 0) ≡ Ok found → (geo ≡ found) × IsTrue (is_within geo)
limited_taken geo found false test is = absurd (cc)
limited_taken geo found true test is = let same : geo ≡ found = cc in (same, test)

text_taken : (text : List ℕ) (geo : Geometry) (b : Bool) → ltb LONGEST_TEXT (length text) ≡ b → cond {A = Result Geometry ℕ} b (Err 8) (lines_read text >>= limited) ≡ Ok geo → (text ≡ device_text geo) × IsTrue (is_within geo)
text_taken text geo true long is = absurd (cc)
text_taken text geo false long is =
    let b : IsBound (lines_read text) limited geo = bound (lines_read text) limited geo is in
    let limits = limited_taken b.x geo (is_within b.x) refl b.next in
    let within : IsTrue (is_within geo) = subst (λ g. IsTrue (is_within g)) limits.0 limits.1 in
    (lines_taken text geo (within_held geo within) (b.is ∙ ap Ok limits.0), within)

pub text_is_taken : (text : List ℕ) (geo : Geometry) → text_read text ≡ Ok geo → (text ≡ device_text geo) × IsTrue (is_within geo)
unfolding text_read
text_is_taken text geo is = text_taken text geo (ltb LONGEST_TEXT (length text)) refl is
