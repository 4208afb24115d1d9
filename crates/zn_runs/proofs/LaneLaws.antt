-- How many lanes of a load come before the first other byte.
use Rattle.std.proofs.Common.{◌≡◌, ℕ, ◌+◌, ◌<◌, ◌≤◌, ◌^◌, ◌%◌, ◌/◌, ◌-◌, Bool, true, false, not, ◌==◌, ◌||◌, cond, bit_or, take, drop, refl, eqb, eqb-true, eq-eqb, ne_eqb, inl, inr, List, length, get_or, map, replicate, ap, sym, ◌∙◌, arith, w8}
use lib.Count.{count_trailing_zeros}
use lib.Lanes.{chunk, zip2, top, mask_l}
use Rattle.std.proofs.lemmas.Bool.{not-true, not-false, eqb-false, cases_lt, or_parts}
use Rattle.std.proofs.lemmas.Simd.{bit_mask_l, mask_l-mod, length-zip2, get_or-zip2, get_or-chunk, length-chunk, bitmask_splat, leading_from_mask_l, trailing_mask_l, run_in_chunk_le, run_in_chunk_fails, run_in_chunk_stops}
use Rattle.std.proofs.Math.Nat.{zero-div}
use Rattle.std.proofs.lemmas.List.{length-replicate, length-map, get_or-replicate, get_or-map}
use Rattle.std.proofs.lemmas.List.Sums.{prefix_len_is}
use Rattle.std.specs.List.{prefix_len}

abbrev pub differs : ℕ → ℕ → Bool
differs a b = not (eqb a b)

-- the count of the lanes from a place on that hold this byte, before the first that does not
pub record EqualLanes (bytes : List ℕ) (at byte count : ℕ) : Type 0 where
  pub within : count ≤ 32
  pub equal : (k : ℕ) → at ≤ k → k < at + count → get_or bytes k 0 ≡ byte
  pub other : count < 32 → get_or bytes (at + count) 0 ≡ byte → ⊥

counted_lanes : (bytes : List ℕ) (at byte count : ℕ) → at + 32 ≤ length bytes → count ≡ prefix_len (λ x. not (differs x byte)) (chunk at 32 bytes) → EqualLanes bytes at byte count
counted_lanes bytes at byte count room counted =
    let p : ℕ → Bool = λ x. differs x byte in
    record {
      within = run_in_chunk_le p bytes at 32 count 0 room counted;
      equal = λ k from to. eqb-true _ _ (not-false _ (run_in_chunk_fails p bytes at 32 count 0 room counted k from to));
      other = λ short. eqb-false _ _ (not-true _ (run_in_chunk_stops p bytes at 32 count 0 room counted short));
    }

-- the mask of the lanes that differ
abbrev pub other_lanes : List ℕ → ℕ → ℕ → ℕ
other_lanes bytes at byte = mask_l (map (top 7) (zip2 (λ a b. cond (differs a b) 255 0) (chunk at 32 bytes) (replicate 32 byte))) % 2 ^ 64

pub no_lane_differs : (bytes : List ℕ) (at byte : ℕ) → at + 32 ≤ length bytes → other_lanes bytes at byte ≡ 0 → EqualLanes bytes at byte 32
no_lane_differs bytes at byte room empty =
    let v = chunk at 32 bytes in
    let long = length-chunk at 32 bytes room in
    let mask = bitmask_splat w8 differs v 32 byte long (omega arith) in
    counted_lanes bytes at byte 32 room (sym (leading_from_mask_l (λ x. differs x byte) v (sym mask ∙ empty) ∙ long))

pub some_lane_differs : (bytes : List ℕ) (at byte : ℕ) → at + 32 ≤ length bytes → 0 < other_lanes bytes at byte → EqualLanes bytes at byte (count_trailing_zeros 64 (other_lanes bytes at byte))
some_lane_differs bytes at byte room some =
    let v = chunk at 32 bytes in
    let long = length-chunk at 32 bytes room in
    let mask = bitmask_splat w8 differs v 32 byte long (omega arith) in
    counted_lanes bytes at byte (count_trailing_zeros 64 (other_lanes bytes at byte)) room
    (ap (count_trailing_zeros 64) mask ∙ trailing_mask_l (λ x. differs x byte) 64 v (omega arith) (omega arith))

-- ---- two loads of 64 lanes

-- the lanes of a load that differ
abbrev pub marks : List ℕ → ℕ → List ℕ
marks load byte = zip2 (λ a b. cond (differs a b) 255 0) load (replicate 64 byte)

abbrev pub either_mask : List ℕ → List ℕ → ℕ → ℕ
either_mask first second byte = mask_l (map (top 7) (zip2 bit_or (marks first byte) (marks second byte)))

either_top : (a b : Bool) → top 7 (bit_or (cond a 255 0) (cond b 255 0)) ≡ (a || b)
either_top true true = refl
either_top true false = refl
either_top false true = refl
either_top false false = refl

either_lane : (first second : List ℕ) (byte i : ℕ) → length first ≡ 64 → length second ≡ 64 → i < 64
    → get_or (map (top 7) (zip2 bit_or (marks first byte) (marks second byte))) i false ≡ (differs (get_or first i 0) byte || differs (get_or second i 0) byte)
either_lane first second byte i long wide inside =
    let f : ℕ → ℕ → ℕ = λ a b. cond (differs a b) 255 0 in
    let same = length-replicate 64 byte in
    let one : get_or (marks first byte) i 0 ≡ f (get_or first i 0) byte =
    get_or-zip2 f first (replicate 64 byte) i 0 0 0 (omega (arith, long)) (omega (arith, same)) ∙ ap (f (get_or first i 0)) (get_or-replicate 64 i byte 0 inside) in
    let two : get_or (marks second byte) i 0 ≡ f (get_or second i 0) byte =
    get_or-zip2 f second (replicate 64 byte) i 0 0 0 (omega (arith, wide)) (omega (arith, same)) ∙ ap (f (get_or second i 0)) (get_or-replicate 64 i byte 0 inside) in
    let len1 : length (marks first byte) ≡ 64 = length-zip2 f first (replicate 64 byte) (long ∙ sym same) ∙ long in
    let len2 : length (marks second byte) ≡ 64 = length-zip2 f second (replicate 64 byte) (wide ∙ sym same) ∙ wide in
    let len : length (zip2 bit_or (marks first byte) (marks second byte)) ≡ 64 = length-zip2 bit_or (marks first byte) (marks second byte) (len1 ∙ sym len2) ∙ len1 in
    get_or-map (top 7) (zip2 bit_or (marks first byte) (marks second byte)) i 0 false (omega (arith, len))
    ∙ ap (top 7) (get_or-zip2 bit_or (marks first byte) (marks second byte) i 0 0 0 (omega (arith, len1)) (omega (arith, len2)))
    ∙ ap (λ a. top 7 (bit_or a (get_or (marks second byte) i 0))) one
    ∙ ap (λ b. top 7 (bit_or (f (get_or first i 0) byte) b)) two
    ∙ either_top (differs (get_or first i 0) byte) (differs (get_or second i 0) byte)

length-either : (first second : List ℕ) (byte : ℕ) → length first ≡ 64 → length second ≡ 64 → length (map (top 7) (zip2 bit_or (marks first byte) (marks second byte))) ≤ 64
length-either first second byte long wide =
    let f : ℕ → ℕ → ℕ = λ a b. cond (differs a b) 255 0 in
    let same = length-replicate 64 byte in
    let len1 : length (marks first byte) ≡ 64 = length-zip2 f first (replicate 64 byte) (long ∙ sym same) ∙ long in
    let len2 : length (marks second byte) ≡ 64 = length-zip2 f second (replicate 64 byte) (wide ∙ sym same) ∙ wide in
    omega (arith, length-map (zip2 bit_or (marks first byte) (marks second byte)) (top 7), length-zip2 bit_or (marks first byte) (marks second byte) (len1 ∙ sym len2), len1)

-- an empty mask has no lane
unmarked : (ms : List Bool) (i : ℕ) → mask_l ms ≡ 0 → get_or ms i false ≡ false
unmarked ms i none = bit_off (get_or ms i false) (mask_l ms / 2 ^ i % 2) (bit_mask_l ms i) (ap (λ n. n / 2 ^ i % 2) none ∙ ap (λ n. n % 2) (zero-div (2 ^ i)))
  where
    bit_off : (b : Bool) (bit : ℕ) → bit ≡ cond b 1 0 → bit ≡ 0 → b ≡ false
    bit_off true bit is none = absurd (omega (arith, is, none))
    bit_off false bit is none = refl

no_lane : (first second : List ℕ) (byte i : ℕ) → length first ≡ 64 → length second ≡ 64 → i < 64 → either_mask first second byte % 2 ^ 64 ≡ 0
    → (differs (get_or first i 0) byte || differs (get_or second i 0) byte) ≡ false
no_lane first second byte i long wide inside none =
    let ms : List Bool = map (top 7) (zip2 bit_or (marks first byte) (marks second byte)) in
    sym (either_lane first second byte i long wide inside) ∙ unmarked ms i (sym (mask_l-mod ms 64 (length-either first second byte long wide)) ∙ none)

-- all bytes of both loads are this one
pub no_load_differs : (bytes : List ℕ) (at byte : ℕ) → at + 128 ≤ length bytes
    → either_mask (take 64 (drop at bytes)) (chunk (at + 64) 64 bytes) byte % 2 ^ 64 ≡ 0
    → (k : ℕ) → at ≤ k → k < at + 128 → get_or bytes k 0 ≡ byte
no_load_differs bytes at byte room none k from below = elim (cases_lt k (at + 64)) [
  | inl low ↦
      let i : ℕ = k - at in
      let here : at + i ≡ k = omega (arith, from) in
      let p = or_parts _ _ (no_lane first second byte i long wide (omega (arith, from, low)) none) in
      sym (ap (λ n. get_or bytes n 0) here) ∙ sym (get_or-chunk at 64 bytes i 0 (omega (arith, from, low))) ∙ equal_lane (get_or first i 0) p.0
  | inr high ↦
      let i : ℕ = k - (at + 64) in
      let here : at + 64 + i ≡ k = omega (arith, high) in
      let p = or_parts _ _ (no_lane first second byte i long wide (omega (arith, high, below)) none) in
      sym (ap (λ n. get_or bytes n 0) here) ∙ sym (get_or-chunk (at + 64) 64 bytes i 0 (omega (arith, high, below))) ∙ equal_lane (get_or second i 0) p.1
]
  where
    first : List ℕ
    first = chunk at 64 bytes

    second : List ℕ
    second = chunk (at + 64) 64 bytes

    long : length first ≡ 64
    long = length-chunk at 64 bytes (omega (arith, room))

    wide : length second ≡ 64
    wide = length-chunk (at + 64) 64 bytes (omega (arith, room))

    equal_lane : (a : ℕ) → differs a byte ≡ false → a ≡ byte
    equal_lane a is = eqb-true _ _ (not-false _ is)

-- ---- bytes that are equal up to a place

-- each byte before a place is this one
abbrev pub EqualBelow : List ℕ → ℕ → ℕ → Type 0
EqualBelow bytes byte at = (k : ℕ) → k < at → get_or bytes k 0 ≡ byte

-- the bytes before a place are this one, and that at the place is not
pub equal_until : (bytes : List ℕ) (byte at : ℕ) → at < length bytes → EqualBelow bytes byte at → (get_or bytes at 0 ≡ byte → ⊥) → at ≡ prefix_len (λ b. b == byte) bytes
equal_until bytes byte at inside equal other =
    sym (prefix_len_is (λ b. b == byte) bytes at 0 (omega arith) (λ k below. eq-eqb _ _ (equal k below)) (λ _. ne_eqb _ _ other))

-- all bytes are this one
pub equal_whole : (bytes : List ℕ) (byte at : ℕ) → at ≤ length bytes → length bytes ≤ at → EqualBelow bytes byte at → at ≡ prefix_len (λ b. b == byte) bytes
equal_whole bytes byte at within past equal =
    sym (prefix_len_is (λ b. b == byte) bytes at 0 within (λ k below. eq-eqb _ _ (equal k below)) (λ inside. absurd (omega arith)))

pub equal_more : (bytes : List ℕ) (byte at count : ℕ) → EqualBelow bytes byte at → ((k : ℕ) → at ≤ k → k < at + count → get_or bytes k 0 ≡ byte) → EqualBelow bytes byte (at + count)
equal_more bytes byte at count equal more k below = elim (cases_lt k at) [ inl before ↦ equal k before | inr from ↦ more k from below ]
