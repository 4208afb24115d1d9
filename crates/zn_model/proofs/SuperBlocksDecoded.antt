-- Two blocks that are read as a super block are its block.
use Rattle.std.proofs.Common.{◌≡◌, ℕ, zero, suc, ◌+◌, ◌%◌, ◌^◌, ◌<◌, ◌≤◌, Bool, true, false, cond, eqb, List, ◌∷◌, length, get_or, drop, Option, Some, None, Ok, refl, sym, ap, ◌∙◌, arith, ⊎_elim}
use Rattle.std.specs.Int.{w32, w64, to_le_bytes, from_le_bytes}
use Rattle.std.specs.List.{All, take_while}
use Rattle.std.proofs.lemmas.Bool.{cases_lt, eqb-true, ltb-false}
use Rattle.std.proofs.lemmas.List.{length-drop, get_or_past}
use Rattle.std.proofs.lemmas.List.Elements.{All-take, All-drop, All-get_or}
use Rattle.std.proofs.lemmas.List.Sums.{prefix_len-le-length}
use Rattle.std.proofs.lemmas.Nat.{le_bytes_4, le_bytes_8}
use Rattle.zn_model.specs.SuperBlock.{IsSuperBlock, magic, version, features, zeros, padded, encoded, field_at, number_at, features_of, is_label_byte, fields_of, first_some, first_difference, first_nonzero, first_bad_label, bad_field, super_refusal, unless_error, decoded}
use Rattle.zn_model.specs.SuperLaws.{DecodedIsEncoded}
use Rattle.zn_model.proofs.SuperBlocksLists.{zeros_from_none, same_from_none, map_none}
use Rattle.zn_model.proofs.SuperBlocksSteps.{length-field_at}
use Rattle.zn_model.proofs.SuperBlocksFields.{fields_are_encoded}
use Rattle.zn_model.proofs.SuperBlocksLabel.{padded_from_good, IsLabelByte-take_while, length-take_while}

-- ---- an answer of no refusal

ok_parts : {X E : Type 0} (o : Option E) (value told : X) → unless_error o value ≡ Ok told → (o ≡ None) × (value ≡ told)
ok_parts None value told e = (refl, cc)
ok_parts (Some error) value told e = cc

none_parts : {X : Type 0} (o : Option X) (more : List (Option X)) → first_some (o ∷ more) ≡ None → (o ≡ None) × (first_some more ≡ None)
none_parts None more e = (refl, e)
none_parts (Some x) more e = cc

then_none : {X : Type 0} (b : Bool) (x : X) → cond b None (Some x) ≡ None → b ≡ true
then_none true x e = refl
then_none false x e = cc

else_none : {X : Type 0} (b : Bool) (x : X) → cond b (Some x) None ≡ None → b ≡ false
else_none true x e = cc
else_none false x e = refl

-- what a block has whose fields are in their form
record HasForm (block : List ℕ) : Type 0 where
  label : first_bad_label (field_at block 8 64) ≡ None
  features : features_of block ≤ 1
  perm : number_at block 104 ≤ 0o777
  rest : first_nonzero (drop 108 block) ≡ None

HasForm-from_none : (block : List ℕ) → bad_field block ≡ None → HasForm block
unfolding bad_field
HasForm-from_none block e =
    let label = none_parts _ _ e in
    let features = none_parts _ _ label.1 in
    let perm = none_parts _ _ features.1 in
    let rest = none_parts _ _ perm.1 in
    record {
      label = map_none _ _ label.0;
      features = ltb-false _ _ (else_none _ _ features.0);
      perm = ltb-false _ _ (else_none _ _ perm.0);
      rest = map_none _ _ rest.0;
    }

record AreAccepted (first second : List ℕ) : Type 0 where
  magic_is : number_at first 0 ≡ magic
  same : first_difference first second ≡ None
  version_is : number_at first 4 ≡ version
  form : HasForm first

AreAccepted-from_none : (first second : List ℕ) → super_refusal first second ≡ None → AreAccepted first second
unfolding super_refusal
AreAccepted-from_none first second e =
    let magic' = none_parts _ _ e in
    let same = none_parts _ _ magic'.1 in
    let version' = none_parts _ _ same.1 in
    let form = none_parts _ _ version'.1 in
    record {
      magic_is = eqb-true _ _ (then_none _ _ magic'.0);
      same = map_none _ _ same.0;
      version_is = eqb-true _ _ (then_none _ _ version'.0);
      form = HasForm-from_none first (map_none _ _ form.0);
    }

-- ---- numbers of a block of bytes

features_again : (n : ℕ) → n ≤ 1 → features (eqb (n % 2) 1) ≡ n
features_again zero h = refl
features_again (suc zero) h = refl
features_again (suc (suc n)) h = absurd (omega arith)

number_fits : (bytes : List ℕ) → ((i : ℕ) → get_or bytes i 0 < 256) → from_le_bytes w32 bytes < 2 ^ 32
number_fits bytes small = omega (arith, small 0, small 1, small 2, small 3)

module _ (block : List ℕ) (long : length block ≡ 4096) (bytes : All (λ byte. byte < 256) block) where
  length-field : (at n : ℕ) → at + n ≤ 4096 → length (field_at block at n) ≡ n
  length-field at n h = length-field_at block at n (omega arith)

  field_bytes : (at n : ℕ) → All (λ byte. byte < 256) (field_at block at n)
  field_bytes at n =
      All-take (λ (byte : ℕ). byte < 256) n (drop at block) (All-drop (λ (byte : ℕ). byte < 256) at block bytes)

  field_byte : (at n i : ℕ) → get_or (field_at block at n) i 0 < 256
  field_byte at n i =
      ⊎_elim
      (λ h. All-get_or (λ (byte : ℕ). byte < 256) (field_at block at n) i 0 h (field_bytes at n))
      (λ h. rw (get_or_past (field_at block at n) i 0 h) (omega arith))
      (cases_lt i (length (field_at block at n)))

  number_bytes : (at : ℕ) → at + 4 ≤ 4096 → to_le_bytes w32 (number_at block at) ≡ field_at block at 4
  unfolding number_at
  number_bytes at h = le_bytes_4 (field_at block at 4) _ (length-field at 4 h) (field_byte at 4) refl

  features_bytes : to_le_bytes w64 (features_of block) ≡ field_at block 88 8
  unfolding features_of
  features_bytes = le_bytes_8 (field_at block 88 8) _ (length-field 88 8 (omega arith)) (field_byte 88 8) refl

  number-lt : (at : ℕ) → number_at block at < 2 ^ 32
  unfolding number_at
  number-lt at = number_fits (field_at block at 4) (field_byte at 4)

  module _ (form : HasForm block) where
    IsSuperBlock-fields : IsSuperBlock (fields_of block)
    unfolding fields_of
    IsSuperBlock-fields =
        record {
          label_length = omega (arith, length-take_while (field_at block 8 64), prefix_len-le-length is_label_byte (field_at block 8 64), length-field 8 64 (omega arith));
          label = IsLabelByte-take_while (field_at block 8 64);
          uuid_length = length-field 72 16 (omega arith);
          uuid = field_bytes 72 16;
          uid = number-lt 96;
          gid = number-lt 100;
          perm = form.perm;
        }

    same_label : field_at block 8 64 ≡ padded 64 (take_while is_label_byte (field_at block 8 64))
    same_label =
        padded_from_good (field_at block 8 64) form.label ∙ ap (λ n. padded n (take_while is_label_byte (field_at block 8 64))) (length-field 8 64 (omega arith))

    same_features : field_at block 88 8 ≡ to_le_bytes w64 (features (eqb (features_of block % 2) 1))
    same_features = sym features_bytes ∙ ap (to_le_bytes w64) (sym (features_again (features_of block) form.features))

    same_rest : drop 108 block ≡ zeros 3988
    same_rest = zeros_from_none (drop 108 block) form.rest ∙ ap zeros (omega (arith, length-drop 108 block))

    encoded-fields : number_at block 0 ≡ magic → number_at block 4 ≡ version → block ≡ encoded (fields_of block)
    unfolding fields_of
    encoded-fields magic_is version_is =
        fields_are_encoded (fields_of block) block (record {
          magic_bytes = sym (number_bytes 0 (omega arith)) ∙ ap (to_le_bytes w32) magic_is;
          version_bytes = sym (number_bytes 4 (omega arith)) ∙ ap (to_le_bytes w32) version_is;
          label_bytes = same_label;
          uuid_bytes = refl;
          features_bytes = same_features;
          uid_bytes = sym (number_bytes 96 (omega arith));
          gid_bytes = sym (number_bytes 100 (omega arith));
          perm_bytes = sym (number_bytes 104 (omega arith));
          rest_bytes = same_rest;
        })

-- ---- the law

pub decoded_is_encoded : DecodedIsEncoded
unfolding decoded
decoded_is_encoded first second s long long' bytes bytes' e =
    let parts = ok_parts (super_refusal first second) (fields_of first) s e in
    let accepted = AreAccepted-from_none first second parts.0 in
    let is = encoded-fields first long bytes accepted.form accepted.magic_is accepted.version_is ∙ ap encoded parts.1 in
    let same = same_from_none first second (long ∙ sym long') accepted.same in
    (is, sym same ∙ is, rw parts.1 at (IsSuperBlock-fields first long bytes accepted.form))
