-- Two blocks read step by step, as a decoder does.
use Rattle.std.proofs.Common.{◌≡◌, ◌≢◌, ℕ, ◌+◌, ◌-◌, ◌<◌, ◌≤◌, true, false, eqb, ltb, List, [], ◌∷◌, length, get_or, take, drop, Some, None, Ok, Err, ap, ◌∙◌, arith}
use Rattle.std.specs.Int.{w32, w64, from_le_bytes}
use Rattle.std.specs.List.{prefix_len}
use Rattle.std.proofs.lemmas.Bool.{lt-ltb, le-ltb, ne_eqb}
use Rattle.std.proofs.lemmas.List.{length-drop, length-take-le, get_or-take, get_or-drop, take_rest}
use Rattle.zn_model.specs.declared.answers.SuperError.TheVariants.{BadMagic, CopiesDiffer, BadVersion, BadField}
use Rattle.zn_model.specs.SuperBlock.{magic, version, field_at, number_at, features_of, fields_of, is_label_byte, first_difference, first_nonzero, first_bad_label, bad_field, super_refusal, decoded}
use Rattle.zn_model.proofs.SuperBlocksLabel.{first_bad_label_behind}

-- ---- bytes of a field

pub length-field_at : (block : List ℕ) (place n : ℕ) → place + n ≤ length block → length (field_at block place n) ≡ n
length-field_at block place n h = length-take-le n (drop place block) (omega (arith, length-drop place block))

pub get_or-field_at : (block : List ℕ) (place n k : ℕ) → k < n → get_or (field_at block place n) k 0 ≡ get_or block (place + k) 0
get_or-field_at block place n k h = get_or-take n (drop place block) k 0 h ∙ get_or-drop place block k 0

pub number_at-bytes : (block : List ℕ) (place : ℕ) → number_at block place ≡ from_le_bytes w32 (get_or block (place + 0) 0 ∷ get_or block (place + 1) 0 ∷ get_or block (place + 2) 0 ∷ get_or block (place + 3) 0 ∷ [])
unfolding number_at
number_at-bytes block place =
    let byte = get_or-field_at block place 4 in
    rw (byte 0 (omega arith), byte 1 (omega arith), byte 2 (omega arith), byte 3 (omega arith))

pub features_of-bytes : (block : List ℕ) → features_of block ≡ from_le_bytes w64 (get_or block 88 0 ∷ get_or block 89 0 ∷ get_or block 90 0 ∷ get_or block 91 0 ∷ get_or block 92 0 ∷ get_or block 93 0 ∷ get_or block 94 0 ∷ get_or block 95 0 ∷ [])
unfolding features_of
features_of-bytes block =
    let byte = get_or-field_at block 88 8 in
    rw (byte 0 (omega arith), byte 1 (omega arith), byte 2 (omega arith), byte 3 (omega arith), byte 4 (omega arith), byte 5 (omega arith), byte 6 (omega arith), byte 7 (omega arith))

-- ---- zeros from a place on

-- as a slice of the bytes has them
pub first_nonzero_rest : (bytes : List ℕ) (n : ℕ) → first_nonzero (take (length bytes - n) (drop n bytes)) ≡ first_nonzero (drop n bytes)
first_nonzero_rest bytes n = ap first_nonzero (take_rest bytes n)

-- ---- a label's field

module _ (field : List ℕ) where
  pub first_bad_label-None : first_nonzero (drop (prefix_len is_label_byte field) field) ≡ None → first_bad_label field ≡ None
  first_bad_label-None e = rw (first_bad_label_behind field, e)

  pub first_bad_label-Some : (k : ℕ) → first_nonzero (drop (prefix_len is_label_byte field) field) ≡ Some k → first_bad_label field ≡ Some (prefix_len is_label_byte field + k)
  first_bad_label-Some k e = rw (first_bad_label_behind field, e)

-- ---- the fields one after another

module _ (block : List ℕ) where
  pub bad_field-label : (k : ℕ) → first_bad_label (field_at block 8 64) ≡ Some k → bad_field block ≡ Some (8 + k)
  unfolding bad_field
  bad_field-label k label = rw label

  module _ (label : first_bad_label (field_at block 8 64) ≡ None) where
    pub bad_field-features : 1 < features_of block → bad_field block ≡ Some 88
    unfolding bad_field
    bad_field-features unknown =
        let bits : ltb 1 (features_of block) ≡ true = lt-ltb _ _ unknown in
        rw (label, bits)

    pub bad_field-perm : features_of block ≤ 1 → 0o777 < number_at block 104 → bad_field block ≡ Some 104
    unfolding bad_field
    bad_field-perm known large =
        let bits : ltb 1 (features_of block) ≡ false = le-ltb _ _ known in
        let digits : ltb 0o777 (number_at block 104) ≡ true = lt-ltb _ _ large in
        rw (label, bits, digits)

    pub bad_field-rest : (k : ℕ) → features_of block ≤ 1 → number_at block 104 ≤ 0o777 → first_nonzero (drop 108 block) ≡ Some k → bad_field block ≡ Some (108 + k)
    unfolding bad_field
    bad_field-rest k known small rest =
        let bits : ltb 1 (features_of block) ≡ false = le-ltb _ _ known in
        let digits : ltb 0o777 (number_at block 104) ≡ false = le-ltb _ _ small in
        rw (label, bits, digits, rest)

    pub bad_field-None : features_of block ≤ 1 → number_at block 104 ≤ 0o777 → first_nonzero (drop 108 block) ≡ None → bad_field block ≡ None
    unfolding bad_field
    bad_field-None known small rest =
        let bits : ltb 1 (features_of block) ≡ false = le-ltb _ _ known in
        let digits : ltb 0o777 (number_at block 104) ≡ false = le-ltb _ _ small in
        rw (label, bits, digits, rest)

-- ---- the refusals one after another

module _ (first second : List ℕ) where
  pub decoded-magic : number_at first 0 ≢ magic → decoded first second ≡ Err BadMagic
  unfolding decoded super_refusal
  decoded-magic apart =
      let test : eqb (number_at first 0) magic ≡ false = ne_eqb _ _ apart in
      rw test

  module _ (is : number_at first 0 ≡ magic) where
    pub decoded-copies : (place : ℕ) → first_difference first second ≡ Some place → decoded first second ≡ Err (CopiesDiffer place)
    unfolding decoded super_refusal
    decoded-copies place differ = rw (is, differ)

    module _ (same : first_difference first second ≡ None) where
      pub decoded-version : number_at first 4 ≢ version → decoded first second ≡ Err (BadVersion (number_at first 4))
      unfolding decoded super_refusal
      decoded-version apart =
          let test : eqb (number_at first 4) version ≡ false = ne_eqb _ _ apart in
          rw (is, same, test)

      pub decoded-field : (place : ℕ) → number_at first 4 ≡ version → bad_field first ≡ Some place → decoded first second ≡ Err (BadField place)
      unfolding decoded super_refusal
      decoded-field place is' bad = rw (is, same, is', bad)

      pub decoded-Ok : number_at first 4 ≡ version → bad_field first ≡ None → decoded first second ≡ Ok (fields_of first)
      unfolding decoded super_refusal
      decoded-Ok is' good = rw (is, same, is', good)
