-- The label of a super block in its field.
use Rattle.std.proofs.Common.{◌≡◌, ℕ, ◌+◌, ◌-◌, ◌<◌, ◌≤◌, true, false, not, leb, eqb, List, ◌++◌, length, get_or, take, drop, Option, Some, None, refl, sym, ap, ◌∙◌, arith, ⊎_elim}
use Rattle.std.specs.Prelude.{option_map}
use Rattle.std.specs.List.{All, take_while, prefix_len, list_any}
use Rattle.std.proofs.lemmas.Bool.{cases_eq, cases_lt, le-leb, leb-true, eq-eqb, ne_eqb, eqb-true, eqb-false, and_from, and_parts, and_left, and_right, or_from, or_left, or_right, not-true, not-false, not_from_true, not_from_false}
use Rattle.std.proofs.lemmas.List.{length-drop, length-take-le, get_or_append_left, get_or-append_right, get_or-take, get_or-drop, take-append-drop, take_at, drop_at}
use Rattle.std.proofs.lemmas.List.Elements.{All-get_or, All-from_get_or}
use Rattle.std.proofs.lemmas.List.Folds.{list_any_none, list_any_at}
use Rattle.std.proofs.lemmas.List.Quantifiers.{position-Some}
use Rattle.std.proofs.lemmas.List.Sums.{prefix_len_is, prefix_len_passes, prefix_len_stops, prefix_len-le-length}
use Rattle.zn_model.specs.SuperBlock.{zeros, padded, is_label_byte, is_bad_label_at, first_nonzero, first_bad_label}
use Rattle.zn_model.proofs.SuperBlocksLists.{find-None, find-Some, get_or-zeros, length-padded, first_nonzero-zeros, zeros_from_none, fails_from_none, map_none}

-- ---- bytes of a label

abbrev IsLabelByte : ℕ → Type 0
IsLabelByte byte = (0x21 ≤ byte) × (byte ≤ 0x7E)

pub is_label_byte_from : (byte : ℕ) → IsLabelByte byte → is_label_byte byte ≡ true
is_label_byte_from byte h = and_from (leb 0x21 byte) (leb byte 0x7E) (le-leb _ _ h.0) (le-leb _ _ h.1)

pub IsLabelByte-from : (byte : ℕ) → is_label_byte byte ≡ true → IsLabelByte byte
IsLabelByte-from byte e =
    let parts = and_parts (leb 0x21 byte) (leb byte 0x7E) e in
    (leb-true _ _ parts.0, leb-true _ _ parts.1)

-- ---- the bad places of a field

-- a zero byte is not bad
zero_is_good : (field : List ℕ) (k : ℕ) → get_or field k 0 ≡ 0 → is_bad_label_at field k ≡ false
zero_is_good field k e = and_left _ _ (not_from_true _ (eq-eqb _ _ e))

module _ (field : List ℕ) where
  abbrev label_len : ℕ
  label_len = prefix_len is_label_byte field

  label_byte : (k : ℕ) → k < label_len → IsLabelByte (get_or field k 0)
  label_byte k h = IsLabelByte-from _ (prefix_len_passes is_label_byte field k 0 h)

  -- nor is one of the label
  label_is_good : (k : ℕ) → k < label_len → is_bad_label_at field k ≡ false
  label_is_good k h =
      let short : length (take k field) ≡ k = length-take-le k field (omega (arith, prefix_len-le-length is_label_byte field)) in
      let ended : list_any (λ byte. eqb byte 0) (take k field) ≡ false = list_any_none (λ (byte : ℕ). eqb byte 0) (take k field) (All-from_get_or (λ (byte : ℕ). eqb byte 0 ≡ false) (take k field) 0
      (λ j l. rw (get_or-take k field j 0 (omega arith)) (ne_eqb _ _ (λ e. omega (arith, label_byte j (omega arith)))))) in
      and_right _ _ (or_from _ _ (not_from_true _ (prefix_len_passes is_label_byte field k 0 h)) ended)

  -- but a byte that isn't zero, at the label's end or behind a zero at its end
  end_is_bad : label_len < length field → (get_or field label_len 0 ≡ 0 → ⊥) → is_bad_label_at field label_len ≡ true
  end_is_bad h apart =
      and_from _ _ (not_from_false _ (ne_eqb _ _ apart)) (or_left _ _ (not_from_false _ (prefix_len_stops is_label_byte field 0 h)))

  behind_is_bad : (k : ℕ) → label_len < k → k < length field → get_or field label_len 0 ≡ 0 → (get_or field k 0 ≡ 0 → ⊥) → is_bad_label_at field k ≡ true
  behind_is_bad k l h ended apart =
      let within : label_len < length (take k field) = omega (arith, length-take-le k field (omega arith)) in
      let there : eqb (get_or (take k field) label_len 0) 0 ≡ true = eq-eqb _ _ (get_or-take k field label_len 0 l ∙ ended) in
      and_from _ _ (not_from_false _ (ne_eqb _ _ apart)) (or_right _ _ (list_any_at (λ (byte : ℕ). eqb byte 0) (take k field) label_len 0 within there))

  first_is_bad : (k : ℕ) → label_len ≤ k → k < length field → ((j : ℕ) → label_len ≤ j → j < k → get_or field j 0 ≡ 0) → (get_or field k 0 ≡ 0 → ⊥) → is_bad_label_at field k ≡ true
  first_is_bad k l h gap apart =
      ⊎_elim
      (λ same. rw same (end_is_bad (omega arith) (rw same at apart)))
      (λ past. behind_is_bad k (omega arith) h (gap label_len (omega arith) (omega arith)) apart)
      (cases_eq k label_len)

  -- so the first bad byte is the first behind the label that isn't zero
  abbrev Behind : ℕ → Type 0
  Behind k = get_or field (label_len + k) 0 ≡ 0

  none_behind : ((k : ℕ) → k < length field - label_len → Behind k) → first_bad_label field ≡ None
  unfolding first_bad_label
  none_behind gap =
      find-None (is_bad_label_at field) 0 (length field)
      (λ k l h. ⊎_elim (λ within. label_is_good k within) (λ past. zero_is_good field k (let place : label_len + (k - label_len) ≡ k = omega arith in rw place at (gap (k - label_len) (omega arith)))) (cases_lt k label_len))

  some_behind : (k : ℕ) → k < length field - label_len → ((j : ℕ) → j < k → Behind j) → (Behind k → ⊥) → first_bad_label field ≡ Some (label_len + k)
  unfolding first_bad_label
  some_behind k h gap apart =
      let zero_at : (j : ℕ) → label_len ≤ j → j < label_len + k → get_or field j 0 ≡ 0 = λ j l h'. let place : label_len + (j - label_len) ≡ j = omega arith in rw place at (gap (j - label_len) (omega arith)) in
      find-Some (is_bad_label_at field) 0 (length field) (label_len + k) (omega arith) (omega arith)
      (first_is_bad (label_len + k) (omega arith) (omega arith) zero_at apart)
      (λ j l h'. ⊎_elim (λ within. label_is_good j within) (λ past. zero_is_good field j (zero_at j past h')) (cases_lt j label_len))

  by_first : (o : Option ℕ) → first_nonzero (drop label_len field) ≡ o → first_bad_label field ≡ option_map (λ k. label_len + k) o
  unfolding first_nonzero
  by_first None e =
      none_behind (λ k h. sym (get_or-drop label_len field k 0) ∙ eqb-true _ _ (not-false _ (fails_from_none (λ (byte : ℕ). not (eqb byte 0)) (drop label_len field) k 0 e (omega (arith, length-drop label_len field)))))
  by_first (Some k) e =
      let found = position-Some (λ (byte : ℕ). not (eqb byte 0)) (drop label_len field) k 0 e in
      some_behind k (omega (arith, length-drop label_len field, found.0))
      (λ j h. sym (get_or-drop label_len field j 0) ∙ eqb-true _ _ (not-false _ (found.2 j h)))
      (λ z. eqb-false _ _ (not-true _ found.1) (get_or-drop label_len field k 0 ∙ z))

  pub first_bad_label_behind : first_bad_label field ≡ option_map (λ k. prefix_len is_label_byte field + k) (first_nonzero (drop (prefix_len is_label_byte field) field))
  first_bad_label_behind = by_first (first_nonzero (drop label_len field)) refl

  -- a label as it is read
  pub IsLabelByte-take_while : All (λ byte. (0x21 ≤ byte) × (byte ≤ 0x7E)) (take_while is_label_byte field)
  IsLabelByte-take_while =
      let short : length (take label_len field) ≡ label_len = length-take-le label_len field (prefix_len-le-length is_label_byte field) in
      All-from_get_or IsLabelByte (take label_len field) 0
      (λ k h. rw (get_or-take label_len field k 0 (omega arith)) (label_byte k (omega arith)))

  pub length-take_while : length (take_while is_label_byte field) ≡ prefix_len is_label_byte field
  length-take_while = length-take-le label_len field (prefix_len-le-length is_label_byte field)

  -- a field that is good is its label and zeros
  pub padded_from_good : first_bad_label field ≡ None → field ≡ padded (length field) (take_while is_label_byte field)
  padded_from_good good =
      let rest = zeros_from_none (drop label_len field) (map_none _ _ (sym first_bad_label_behind ∙ good)) in
      let long : length (drop label_len field) ≡ length field - label_len = length-drop label_len field in
      rw (length-take_while) (sym (take-append-drop label_len field) ∙ ap (λ back. take label_len field ++ back) (rest ∙ ap zeros long))

-- ---- a label and zeros behind it

module _ (n : ℕ) (label : List ℕ) (fits : length label ≤ n) (all : All (λ byte. (0x21 ≤ byte) × (byte ≤ 0x7E)) label) where
  byte_within : (k : ℕ) → k < length label → get_or (padded n label) k 0 ≡ get_or label k 0
  byte_within k h = get_or_append_left label (zeros (n - length label)) 0 k h

  byte_behind : (k : ℕ) → length label ≤ k → k < n → get_or (padded n label) k 0 ≡ 0
  byte_behind k l h =
      get_or-append_right label (zeros (n - length label)) (length label) k 0 refl l ∙ get_or-zeros _ _ (omega arith)

  prefix_len-padded : prefix_len is_label_byte (padded n label) ≡ length label
  prefix_len-padded =
      let long = length-padded n label fits in
      prefix_len_is is_label_byte (padded n label) (length label) 0 (omega arith)
      (λ k h. rw (byte_within k h) (is_label_byte_from _ (All-get_or IsLabelByte label k 0 h all)))
      (λ h. rw (byte_behind (length label) (omega arith) (omega arith)) refl)

  -- it is good
  pub first_bad_label-padded : first_bad_label (padded n label) ≡ None
  first_bad_label-padded =
      rw (first_bad_label_behind (padded n label), prefix_len-padded, drop_at label (zeros (n - length label)) (length label) refl, first_nonzero-zeros (n - length label))

  -- and the label is read from it
  pub take_while-padded : take_while is_label_byte (padded n label) ≡ label
  take_while-padded = rw prefix_len-padded (take_at label (zeros (n - length label)) (length label) refl)
