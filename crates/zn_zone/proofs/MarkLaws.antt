-- Marks as bits: what a write to one leaves, and where the lowest is.
use Rattle.std.proofs.Common.{◌≡◌, ◌≢◌, ℕ, ◌+◌, ◌*◌, ◌/◌, ◌%◌, ◌<◌, ◌≤◌, Bool, true, false, not, List, length, set}
use Rattle.std.proofs.Common.{replicate, get_or, min, Some, None, ⊎_elim, refl, sym, ap, ◌∙◌, arith}
use Rattle.std.specs.Prelude.{◌==◌, if◌then◌else◌, position}
use Rattle.std.specs.Int.{bit_at}
use Rattle.std.proofs.lemmas.Bool.{cases_lt, cases_eq}
use Rattle.std.proofs.lemmas.Bool.Decides.{nat_tests}
use Rattle.std.proofs.lemmas.List.{ext_get_or, get_or_past, get_or-replicate, get_or-set_same, get_or-set_other}
use Rattle.std.proofs.lemmas.List.{length-set, length-replicate, get_or_default}
use Rattle.std.proofs.lemmas.List.FromFn.{length-map-range_with_len, get_or-map-range_with_len}
use Rattle.std.proofs.lemmas.List.Sums.{position_or_len_is}
use Rattle.std.proofs.lemmas.Nat.Bits.{bit_at-zero}
use Rattle.zn_zone.specs.Marks.{mark_at, marks_in, IsSummed}

-- ---- lists of marks

pub length-marks : (lanes : List ℕ) (bound : ℕ) → length (marks_in lanes bound) ≡ bound
length-marks lanes bound = length-map-range_with_len (λ number. mark_at lanes number == 1) 0 bound

marks-at : (lanes : List ℕ) (bound k : ℕ) → k < bound → get_or (marks_in lanes bound) k false ≡ (mark_at lanes k == 1)
marks-at lanes bound k below =
    get_or-map-range_with_len (λ number. mark_at lanes number == 1) 0 bound k k false below (omega arith)

-- a list of tests with this one as the first that passes
position_some : (xs : List Bool) (i : ℕ) → i < length xs → get_or xs i false ≡ true
    → ((k : ℕ) → k < i → get_or xs k false ≡ false) → position (λ x. x) xs ≡ Some i
position_some xs i below here before =
    let first = position_or_len_is (λ x. x) xs i false (omega arith) before (λ _. here) in
    rw first (grind (arith, nat_tests))

position_none : (xs : List Bool) → ((k : ℕ) → k < length xs → get_or xs k false ≡ false) → position (λ x. x) xs ≡ None
position_none xs none =
    let first = position_or_len_is (λ x. x) xs (length xs) false (omega arith) none (λ below. absurd (omega arith)) in
    rw first (grind (arith, nat_tests))

-- ---- no mark

-- the bit of a lane in the summary
lane_bit : ℕ → ℕ
lane_bit word = if word == 0 then 0 else 1

no_lane : (n i : ℕ) → get_or {A = ℕ} (replicate n 0) i 0 ≡ 0
no_lane n i =
    ⊎_elim (λ below. get_or-replicate n i 0 0 below)
    (λ past. get_or_past (replicate n 0) i 0 (omega (arith, length-replicate {A = ℕ} n 0)))
    (cases_lt i n)

no_mark : (n k : ℕ) → mark_at (replicate n 0) k ≡ 0
no_mark n k = ap (λ word. bit_at word (k % 64)) (no_lane n (k / 64)) ∙ bit_at-zero (k % 64)

pub none_marked : (n bound : ℕ) → marks_in (replicate n 0) bound ≡ replicate bound false
none_marked n bound =
    ext_get_or false (marks_in (replicate n 0) bound) (replicate bound false)
    (length-marks (replicate n 0) bound ∙ sym (length-replicate bound false))
    (λ k inside.
    let below : k < bound = omega (arith, inside, length-marks (replicate n 0) bound) in
    marks-at (replicate n 0) bound k below ∙ ap (λ bit. bit == 1) (no_mark n k)
    ∙ sym (get_or-replicate bound k false false below))

pub none_summed : (bound : ℕ) → bound ≤ 4096 → IsSummed bound 0 (replicate (bound / 64 + min 1 (bound % 64)) 0)
unfolding lane_bit
none_summed bound most =
    let lanes = bound / 64 + min 1 (bound % 64) in
    record {
      room = omega (arith, length-replicate {A = ℕ} lanes 0);
      count = omega (arith, length-replicate {A = ℕ} lanes 0);
      clear = λ k _. no_mark lanes k;
      summed = λ lane _. bit_at-zero lane ∙ sym (ap lane_bit (no_lane lanes lane));
    }

-- ---- one mark

-- a word with this bit set or cleared
pub record IsWithBit (old new bit : ℕ) (is_set : Bool) : Type 0 where
  pub here : bit_at new bit ≡ (if is_set then 1 else 0)
  pub others : (i : ℕ) → i < 64 → i ≢ bit → bit_at new i ≡ bit_at old i

mark_here : (lanes : List ℕ) (number word : ℕ) → number / 64 < length lanes
    → mark_at (set lanes (number / 64) word) number ≡ bit_at word (number % 64)
mark_here lanes number word below = ap (λ w. bit_at w (number % 64)) (get_or-set_same lanes (number / 64) word 0 below)

other_bit : (k number : ℕ) → k ≢ number → k / 64 ≡ number / 64 → k % 64 ≢ number % 64
other_bit k number other same = omega arith

mark_other : (lanes : List ℕ) (number word : ℕ) (is_marked : Bool) → number / 64 < length lanes
    → IsWithBit (get_or lanes (number / 64) 0) word (number % 64) is_marked → (k : ℕ) → k ≢ number
    → mark_at (set lanes (number / 64) word) k ≡ mark_at lanes k
mark_other lanes number word is_marked below with_bit k other =
    ⊎_elim
    (λ same.
    ap (λ lane. bit_at (get_or (set lanes (number / 64) word) lane 0) (k % 64)) same
    ∙ ap (λ w. bit_at w (k % 64)) (get_or-set_same lanes (number / 64) word 0 below)
    ∙ with_bit.others (k % 64) (omega arith) (other_bit k number other same)
    ∙ ap (λ lane. bit_at (get_or lanes lane 0) (k % 64)) (sym same))
    (λ apart. ap (λ w. bit_at w (k % 64)) (get_or-set_other lanes (number / 64) (k / 64) word 0 apart))
    (cases_eq (k / 64) (number / 64))

is_bit : (b : Bool) → ((if b then 1 else 0) == 1) ≡ b
is_bit true = refl
is_bit false = refl

-- The marks after a write to one.
marks_put : (lanes : List ℕ) (bound number word : ℕ) (is_marked : Bool) → number < bound → number / 64 < length lanes
    → IsWithBit (get_or lanes (number / 64) 0) word (number % 64) is_marked
    → marks_in (set lanes (number / 64) word) bound ≡ set (marks_in lanes bound) number is_marked
marks_put lanes bound number word is_marked below there with_bit =
    let new = set lanes (number / 64) word in
    ext_get_or false (marks_in new bound) (set (marks_in lanes bound) number is_marked)
    (length-marks new bound ∙ sym (length-set (marks_in lanes bound) number is_marked ∙ length-marks lanes bound))
    (λ k inside.
    let within : k < bound = omega (arith, inside, length-marks new bound) in
    marks-at new bound k within
    ∙ ⊎_elim
    (λ same.
    ap (λ n. mark_at new n == 1) same
    ∙ ap (λ bit. bit == 1) (mark_here lanes number word there ∙ with_bit.here)
    ∙ is_bit is_marked
    ∙ sym (ap (λ n. get_or (set (marks_in lanes bound) number is_marked) n false) same
    ∙ get_or-set_same (marks_in lanes bound) number is_marked false (omega (arith, length-marks lanes bound))))
    (λ other.
    ap (λ bit. bit == 1) (mark_other lanes number word is_marked there with_bit k other)
    ∙ sym (get_or-set_other (marks_in lanes bound) number k is_marked false other ∙ marks-at lanes bound k within))
    (cases_eq k number))

is_some_bit : (b : Bool) → (let n : ℕ = if not b then 1 else 0 in n) ≡ (if b then 0 else 1)
is_some_bit true = refl
is_some_bit false = refl

-- They are summed where the summary has the lane's bit.
summed_put : (lanes : List ℕ) (bound number word summary after : ℕ) (is_marked some : Bool) → number < bound
    → IsSummed bound summary lanes
    → IsWithBit (get_or lanes (number / 64) 0) word (number % 64) is_marked
    → IsWithBit summary after (number / 64) some → some ≡ not (word == 0)
    → IsSummed bound after (set lanes (number / 64) word)
unfolding lane_bit
summed_put lanes bound number word summary after is_marked some below summed with_bit with_lane tells =
    let there : number / 64 < length lanes = omega (arith, summed.room) in
    record {
      room = omega (arith, summed.room, length-set lanes (number / 64) word);
      count = omega (arith, summed.count, length-set lanes (number / 64) word);
      clear = λ k past. mark_other lanes number word is_marked there with_bit k (omega arith) ∙ summed.clear k past;
      summed = λ lane within. ⊎_elim
          (λ same. ap (bit_at after) same ∙ with_lane.here ∙ ap (λ b. if b then 1 else 0) tells
          ∙ is_some_bit (word == 0)
          ∙ sym (ap (λ n. lane_bit (get_or (set lanes (number / 64) word) n 0)) same
          ∙ ap lane_bit (get_or-set_same lanes (number / 64) word 0 there)))
          (λ other. with_lane.others lane within other ∙ summed.summed lane within
          ∙ sym (ap lane_bit (get_or-set_other lanes (number / 64) lane word 0 other)))
          (cases_eq lane (number / 64));
    }

-- what a read of an element gives is the element
read_is : (words : List ℕ) (i word : ℕ) → i < length words → word ≡ get_or words i word → word ≡ get_or words i 0
read_is words i word below read = read ∙ get_or_default words i word 0 below

read_bit : (old read new bit : ℕ) (is_set : Bool) → read ≡ old → IsWithBit read new bit is_set
    → IsWithBit old new bit is_set
read_bit old read new bit is_set is with_bit = record { here = with_bit.here; others = λ i within other. with_bit.others i within other ∙ ap (λ w. bit_at w i) is }

-- the marks after a write to one, and their summary
pub record IsPut (lanes : List ℕ) (bound number word after : ℕ) (is_marked : Bool) : Type 0 where
  pub summed : IsSummed bound after (set lanes (number / 64) word)
  pub marks : marks_in (set lanes (number / 64) word) bound ≡ set (marks_in lanes bound) number is_marked

pub put_one : (lanes : List ℕ) (bound number read word summary after : ℕ) (is_marked some : Bool)
    → number < length (marks_in lanes bound) → IsSummed bound summary lanes
    → read ≡ get_or lanes (number / 64) read → IsWithBit read word (number % 64) is_marked
    → IsWithBit summary after (number / 64) some → some ≡ not (word == 0)
    → IsPut lanes bound number word after is_marked
put_one lanes bound number read word summary after is_marked some below summed is with_bit with_lane tells =
    let within : number < bound = omega (arith, length-marks lanes bound) in
    let there : number / 64 < length lanes = omega (arith, summed.room) in
    let here = read_bit (get_or lanes (number / 64) 0) read word (number % 64) is_marked
    (read_is lanes (number / 64) read there is) with_bit in
    record {
      summed = summed_put lanes bound number word summary after is_marked some within summed here with_lane tells;
      marks = marks_put lanes bound number word is_marked within there here;
    }

-- ---- the lowest mark

-- the lowest bit that is set
pub record IsLowestBit (word bit : ℕ) : Type 0 where
  pub bound : bit < 64
  pub here : bit_at word bit ≡ 1
  pub before : (i : ℕ) → i < bit → bit_at word i ≡ 0

-- a lane without its bit in the summary has no mark
lane_none : (bound summary : ℕ) (lanes : List ℕ) (lane : ℕ) → IsSummed bound summary lanes
    → (lane < 64 → bit_at summary lane ≡ 0) → get_or lanes lane 0 ≡ 0
lane_none bound summary lanes lane summed clear =
    ⊎_elim
    (λ within. let e = sym (summed.summed lane within) ∙ clear within in grind (arith, nat_tests))
    (λ past. get_or_past lanes lane 0 (omega (arith, summed.count)))
    (cases_lt lane 64)

mark_none : (lanes : List ℕ) (k : ℕ) → get_or lanes (k / 64) 0 ≡ 0 → mark_at lanes k ≡ 0
mark_none lanes k none = ap (λ w. bit_at w (k % 64)) none ∙ bit_at-zero (k % 64)

-- Without a summary there is no mark.
pub lowest_none : (bound summary : ℕ) (lanes : List ℕ) → IsSummed bound summary lanes → summary ≡ 0
    → position (λ is_marked. is_marked) (marks_in lanes bound) ≡ None
lowest_none bound summary lanes summed none =
    position_none (marks_in lanes bound)
    (λ k inside.
    marks-at lanes bound k (omega (arith, inside, length-marks lanes bound))
    ∙ ap (λ bit. bit == 1)
    (mark_none lanes k (lane_none bound summary lanes (k / 64) summed (λ _. ap (λ s. bit_at s (k / 64)) none
    ∙ bit_at-zero (k / 64)))))

-- A lane with its bit in the summary has a mark, and is there.
pub lane_some : (bound summary : ℕ) (lanes : List ℕ) (lane : ℕ) → IsSummed bound summary lanes
    → IsLowestBit summary lane → (lane < length lanes) × (get_or lanes lane 0 ≢ 0)
unfolding lane_bit
lane_some bound summary lanes lane summed lowest =
    let e = sym (summed.summed lane lowest.bound) ∙ lowest.here in
    let some : get_or lanes lane 0 ≢ 0 = λ none. absurd (let f = sym (ap lane_bit none) ∙ e in omega (arith, f)) in (
      ⊎_elim (λ below. below) (λ past. absurd (some (get_or_past lanes lane 0 past))) (cases_lt lane
          (length lanes)),
      some,
    )

pub read_some : (words : List ℕ) (i word : ℕ) → (i < length words) × (get_or words i 0 ≢ 0)
    → word ≡ get_or words i word → word ≢ 0
read_some words i word some read none = some.1 (sym (read_is words i word some.0 read) ∙ none)

-- It is the lowest bit of the lowest lane.
pub lowest_some : (bound summary : ℕ) (lanes : List ℕ) (lane read bit : ℕ) → IsSummed bound summary lanes
    → IsLowestBit summary lane → lane < length lanes → read ≡ get_or lanes lane read → IsLowestBit read bit
    → position (λ is_marked. is_marked) (marks_in lanes bound) ≡ Some (64 * lane + bit)
lowest_some bound summary lanes lane read bit summed first there is lowest =
    let same_read = read_is lanes lane read there is in
    let here_bit : bit_at (get_or lanes lane 0) bit ≡ 1 = ap (λ w. bit_at w bit) (sym same_read) ∙ lowest.here in
    let number = 64 * lane + bit in
    let at_lane : number / 64 ≡ lane = omega (arith, lowest.bound) in
    let at_bit : number % 64 ≡ bit = omega (arith, lowest.bound) in
    let here : mark_at lanes number ≡ 1 = ap (λ n. bit_at (get_or lanes n 0) (number % 64)) at_lane
    ∙ ap (bit_at (get_or lanes lane 0)) at_bit ∙ here_bit in
    let within : number < bound =
    ⊎_elim (λ below. below) (λ past. absurd (let e = sym (summed.clear number past) ∙ here in omega (arith, e)))
    (cases_lt number bound) in
    position_some (marks_in lanes bound) number (omega (arith, within, length-marks lanes bound))
    (marks-at lanes bound number within ∙ ap (λ b. b == 1) here)
    (λ k before.
    marks-at lanes bound k (omega arith)
    ∙ ap (λ b. b == 1)
    (⊎_elim
    (λ lower. mark_none lanes k (lane_none bound summary lanes (k / 64) summed (λ _. first.before (k / 64) lower)))
    (λ upper.
    let same : k / 64 ≡ lane = omega (arith, lowest.bound) in
    ap (λ n. bit_at (get_or lanes n 0) (k % 64)) same ∙ ap (λ w. bit_at w (k % 64)) (sym same_read)
    ∙ lowest.before (k % 64) (omega (arith, lowest.bound)))
    (cases_lt (k / 64) lane)))
