-- Why two blocks are refused.
use Rattle.std.proofs.Common.{◌≡◌, ◌≢◌, ℕ, ◌+◌, ◌-◌, ◌<◌, ◌≤◌, true, false, not, ◌||◌, eqb, List, length, get_or, take, drop, Some, None, refl, sym, ap, ◌∙◌, inl, inr, arith, ⊎_elim}
use Rattle.std.specs.Prelude.{slice_index}
use Rattle.std.specs.List.{list_any, zip}
use Rattle.std.proofs.lemmas.Bool.{both_ways, cases_eq, cases_lt, eq-eqb, ne_eqb, eqb-true, eqb-false, and_from, and_parts, or_cases, or_left, or_right, not-true, not_from_true, not_from_false, false_from_ne_true}
use Rattle.std.proofs.lemmas.List.{length-drop, length-take-le, get_or-take, get_or-drop, get_or_past}
use Rattle.std.proofs.lemmas.List.Folds.{Any-from_list_any, list_any_at}
use Rattle.std.proofs.lemmas.Slice.Zip.{length-zip, get_or-zip}
use Rattle.zn_model.specs.SuperBlock.{field_at, number_at, features_of, is_label_byte, is_bad_label_at, first_difference, first_nonzero, first_bad_label, bad_field}
use Rattle.zn_model.specs.SuperLaws.{MagicIsFirst, CopiesAreNext, VersionIsNext, IsBadLabelPlace, IsBadPlace, of_label, of_features, of_perm, of_rest, FieldsAreLast, OthersAreRead}
use Rattle.zn_model.proofs.SuperBlocksLists.{position-None, position-Some_at, find-None, find-Some, first_difference_none}
use Rattle.zn_model.proofs.SuperBlocksSteps.{length-field_at, get_or-field_at, bad_field-label, bad_field-features, bad_field-perm, bad_field-rest, bad_field-None, decoded-magic, decoded-copies, decoded-version, decoded-field, decoded-Ok}
use Rattle.zn_model.proofs.SuperBlocksLabel.{is_label_byte_from, IsLabelByte-from}

-- ---- places out of their form

module _ (block : List ℕ) (long : length block ≡ 4096) where
  abbrev field : List ℕ
  field = field_at block 8 64

  length-field : length field ≡ 64
  length-field = length-field_at block 8 64 (omega arith)

  label_byte : (k : ℕ) → k < 64 → get_or field k 0 ≡ get_or block (8 + k) 0
  label_byte k h = get_or-field_at block 8 64 k h

  bad_from : (k : ℕ) → k < 64 → IsBadLabelPlace block (8 + k) → is_bad_label_at field k ≡ true
  bad_from k h is =
      and_from _ _
      (not_from_false _ (ne_eqb _ _ (λ e. is.byte (sym (label_byte k h) ∙ e))))
      (⊎_elim
      (λ no. or_left _ _ (not_from_false _ (false_from_ne_true _ (λ e. no (rw (label_byte k h) at (IsLabelByte-from (get_or field k 0) e))))))
      (λ z. let j = z.0 - 8 in
      let place : 8 + j ≡ z.0 = omega (arith, z.1) in
      let within : j < k = omega (arith, z.1, z.2) in
      let short : length (take k field) ≡ k = length-take-le k field (omega (arith, length-field)) in
      let zero' : get_or (take k field) j 0 ≡ 0 = get_or-take k field j 0 within ∙ label_byte j (omega arith) ∙ ap (λ i. get_or block i 0) place ∙ z.3 in
      or_right _ _ (list_any_at (λ (byte : ℕ). eqb byte 0) (take k field) j 0 (omega arith) (eq-eqb _ _ zero')))
      is.bad)

  zero_before : (k : ℕ) → k < 64 → list_any (λ byte. eqb byte 0) (take k field) ≡ true → (z : ℕ) × (8 ≤ z) × (z < 8 + k) × (get_or block z 0 ≡ 0)
  zero_before k h e =
      let found = Any-from_list_any (λ (byte : ℕ). eqb byte 0) (take k field) e in
      let short : length (take k field) ≡ k = length-take-le k field (omega (arith, length-field)) in
      let within : found.0 < k = omega (arith, found.2) in
      let byte : found.1 ≡ 0 = eqb-true _ _ found.4 in
      let there : get_or (take k field) found.0 0 ≡ 0 = rw byte at found.3 in
      (8 + found.0, omega arith, omega arith, sym (label_byte found.0 (omega arith)) ∙ sym (get_or-take k field found.0 0 within) ∙ there)

  bad_to : (k : ℕ) → k < 64 → is_bad_label_at field k ≡ true → IsBadLabelPlace block (8 + k)
  bad_to k h e =
      let parts = and_parts (not (eqb (get_or field k 0) 0)) (not (is_label_byte (get_or field k 0)) || list_any (λ byte. eqb byte 0) (take k field)) e in
      let cases = or_cases (not (is_label_byte (get_or field k 0))) (list_any (λ byte. eqb byte 0) (take k field)) parts.1 in
      record {
        from = omega arith;
        before = omega arith;
        byte = λ z. eqb-false _ _ (not-true _ parts.0) (label_byte k h ∙ z);
        bad = ⊎_elim (λ no. inl (λ good. both_ways _ (not-true _ no) (is_label_byte_from (get_or field k 0) (rw (label_byte k h) good)))) (λ z. inr (zero_before k h z)) cases;
      }

  module _ (place : ℕ) (least : (k : ℕ) → k < place → ¬ IsBadPlace block k) where
    good_below : (k : ℕ) → k < 64 → 8 + k < place → is_bad_label_at field k ≡ false
    good_below k h l = false_from_ne_true _ (λ e. least (8 + k) l (of_label (bad_to k h e)))

    good_label : 72 ≤ place → first_bad_label field ≡ None
    unfolding first_bad_label
    good_label past =
        find-None (is_bad_label_at field) 0 (length field)
        (λ k l h. let within : k < 64 = omega (arith, length-field) in good_below k within (omega arith))

    bad_label : IsBadLabelPlace block place → bad_field block ≡ Some place
    unfolding first_bad_label
    bad_label is =
        let k = place - 8 in
        let here : 8 + k ≡ place = omega (arith, is.from) in
        let within : k < 64 = omega (arith, is.before) in
        let first : first_bad_label field ≡ Some k = find-Some (is_bad_label_at field) 0 (length field) k (omega arith) (omega (arith, length-field)) (bad_from k within (rw here is)) (λ j l h. good_below j (omega arith) (omega arith)) in
        bad_field-label block k first ∙ ap Some here

    known_below : 88 < place → features_of block ≤ 1
    known_below past =
        ⊎_elim (λ unknown. absurd (least 88 past (of_features refl unknown))) (λ known. known) (cases_lt 1 (features_of block))

    small_below : 104 < place → number_at block 104 ≤ 0o777
    small_below past =
        ⊎_elim (λ large. absurd (least 104 past (of_perm refl large))) (λ small. small) (cases_lt 0o777 (number_at block 104))

    zero_below : (k : ℕ) → 108 ≤ k → k < place → get_or block k 0 ≡ 0
    zero_below k past h = ⊎_elim (λ z. z) (λ apart. absurd (least k h (of_rest past apart))) (cases_eq (get_or block k 0) 0)

    first_rest : 108 ≤ place → slice_index block place ≢ 0 → first_nonzero (drop 108 block) ≡ Some (place - 108)
    unfolding first_nonzero
    first_rest past byte =
        let at : (k : ℕ) → get_or (drop 108 block) k 0 ≡ get_or block (108 + k) 0 = λ k. get_or-drop 108 block k 0 in
        let here : 108 + (place - 108) ≡ place = omega arith in
        let inside : place < 4096 = ⊎_elim (λ h. h) (λ h. absurd (byte (get_or_past block place 0 (omega arith)))) (cases_lt place 4096) in
        position-Some_at (λ (byte : ℕ). not (eqb byte 0)) (drop 108 block) (place - 108) 0 (omega (arith, length-drop 108 block))
        (λ k h. not_from_true _ (eq-eqb _ _ (at k ∙ zero_below (108 + k) (omega arith) (omega arith))))
        (not_from_false _ (ne_eqb _ _ (λ e. byte (ap (λ i. get_or block i 0) (sym here) ∙ sym (at (place - 108)) ∙ e))))

    bad_place : IsBadPlace block place → bad_field block ≡ Some place
    bad_place (of_label is) = bad_label is
    bad_place (of_features is unknown) =
        bad_field-features block (good_label (omega arith)) unknown ∙ ap Some (sym is)
    bad_place (of_perm is large) =
        bad_field-perm block (good_label (omega arith)) (known_below (omega arith)) large ∙ ap Some (sym is)
    bad_place (of_rest past byte) =
        let here : 108 + (place - 108) ≡ place = omega arith in
        bad_field-rest block (good_label (omega arith)) (place - 108) (known_below (omega arith)) (small_below (omega arith)) (first_rest past byte) ∙ ap Some here

no_rest : (block : List ℕ) → length block ≡ 4096 → ((k : ℕ) → ¬ IsBadPlace block k) → first_nonzero (drop 108 block) ≡ None
unfolding first_nonzero
no_rest block long good =
    let at : (k : ℕ) → get_or (drop 108 block) k 0 ≡ get_or block (108 + k) 0 = λ k. get_or-drop 108 block k 0 in
    let zero_at : (k : ℕ) → 108 ≤ k → get_or block k 0 ≡ 0 = λ k past. ⊎_elim (λ z. z) (λ apart. absurd (good k (of_rest past apart))) (cases_eq (get_or block k 0) 0) in
    position-None (λ (byte : ℕ). not (eqb byte 0)) (drop 108 block) 0
    (λ k h. not_from_true _ (eq-eqb _ _ (at k ∙ zero_at (108 + k) (omega arith))))

-- ---- the laws

pub magic_is_first : MagicIsFirst
magic_is_first first second apart = decoded-magic first second apart

pub copies_are_next : CopiesAreNext
unfolding first_difference
copies_are_next first second place long long' is found =
    let pairs : length (zip first second) ≡ 4096 = omega (arith, length-zip first second) in
    let at : (k : ℕ) → k < 4096 → get_or (zip first second) k (0, 0) ≡ (get_or first k 0, get_or second k 0) = λ k h. get_or-zip first second k (0, 0) (omega arith) (omega arith) in
    let differ : first_difference first second ≡ Some place = position-Some_at (λ (both : ℕ × ℕ). not (eqb both.0 both.1)) (zip first second) place (0, 0) (omega (arith, found.within))
    (λ k h. rw (at k (omega (arith, found.within))) (not_from_true _ (eq-eqb _ _ (found.before k h))))
    (rw (at place found.within) (not_from_false _ (ne_eqb _ _ found.differ))) in
    decoded-copies first second is place differ

pub version_is_next : VersionIsNext
version_is_next block is apart = decoded-version block block is (first_difference_none block) apart

pub fields_are_last : FieldsAreLast
fields_are_last block place long is is' bad least =
    decoded-field block block is (first_difference_none block) place is' (bad_place block long place least bad)

pub others_are_read : OthersAreRead
others_are_read block long is is' good =
    let none : (k : ℕ) → k < 4096 → ¬ IsBadPlace block k = λ k h. good k in
    let form = bad_field-None block (good_label block long 4096 none (omega arith)) (known_below block long 4096 none (omega arith)) (small_below block long 4096 none (omega arith)) (no_rest block long good) in
    decoded-Ok block block is (first_difference_none block) is' form
