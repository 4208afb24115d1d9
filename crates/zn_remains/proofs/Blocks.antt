-- The block of a super block that a format writes has the size of a block.
use Rattle.std.proofs.Common.{◌≡◌, ℕ, zero, suc, ◌≤◌, Bool, true, false, List, [], ◌∷◌, ◌++◌, length, Option, Some, None, refl, ◌∙◌, arith, length-append}
use Rattle.std.specs.Prelude.{if◌then◌else◌, ◌==◌, ◌&&◌, nat_le, IfSome, slice_index, take, drop}
use Rattle.std.specs.Int.{w32, w64, to_le_bytes}
use Rattle.std.proofs.lemmas.Bool.{and_parts, leb-true}
use Rattle.std.proofs.lemmas.List.{length-set, length-replicate}
use Rattle.std.specs.List.{list_all}
use Rattle.uuid.specs.declared.Variant.TheVariants.{RFC4122}
use Rattle.uuid.specs.Text.{by_index, is_hex_digit, byte_of_digits, has_hyphens, digits_of, has_urn_prefix, open_brace, close_brace, parsed_simple, parsed_hyphenated, parsed_braced, parsed_urn, parsed}
use Rattle.uuid.specs.Parts.{with_variant}
use Rattle.zn_model.specs.SuperBlock.{SuperBlock, encoded, padded, zeros, features, is_label, is_label_byte}
use Rattle.zn_model.specs.Formatting.{zero_block}
use Rattle.zn_model.proofs.SuperBlocksLists.{length-zeros, length-padded}
use Rattle.zn_lines.specs.Session.{label_in, uuid_in}

-- ---- the block

-- a label and an identifier of their sizes
pub record HasSizes (s : SuperBlock) : Type 0 where
  pub label : length s.label ≤ 64
  pub uuid : length s.uuid ≡ 16

pub length-encoded : (s : SuperBlock) → HasSizes s → length (encoded s) ≡ 4096
unfolding encoded
length-encoded s sizes =
    let after_perm = to_le_bytes w32 s.perm ++ zeros 3988 in
    let after_gid = to_le_bytes w32 s.gid ++ after_perm in
    let after_uid = to_le_bytes w32 s.uid ++ after_gid in
    let after_features = to_le_bytes w64 (features s.aggr_cnv) ++ after_uid in
    let after_uuid = s.uuid ++ after_features in
    omega (arith, length-append (padded 64 s.label) after_uuid, length-append s.uuid after_features, length-padded 64 s.label sizes.label, sizes.uuid, length-zeros 3988)

pub length-zero_block : length zero_block ≡ 4096
length-zero_block = length-replicate {A = ℕ} 4096 0

-- ---- identifiers

length-by_index : {X : Type 0} (n : ℕ) (f : ℕ → X) → length (by_index n f) ≡ n
unfolding by_index
length-by_index zero f = refl
length-by_index (suc n) f = length-append (by_index n f) (f n ∷ []) ∙ omega (arith, length-by_index n f)

-- sixteen bytes, where there are any
abbrev Sixteen : Option (List ℕ) → Type 0
Sixteen found = IfSome found (λ (uuid : List ℕ). length uuid ≡ 16)

-- found where a test holds
if_sixteen : (b : Bool) (found : Option (List ℕ)) → Sixteen found → Sixteen (if b then found else None)
if_sixteen true found is = is
if_sixteen false found is = tt

either_sixteen : (b : Bool) (one other : Option (List ℕ)) → Sixteen one → Sixteen other → Sixteen (if b then one else other)
either_sixteen true one other here there = here
either_sixteen false one other here there = there

simple_sixteen : (hex : List ℕ) → Sixteen (parsed_simple hex)
simple_sixteen hex = if_sixteen ((length hex == 32) && list_all is_hex_digit hex) (Some (by_index 16 (byte_of_digits hex))) (length-by_index 16 (byte_of_digits hex))

hyphenated_sixteen : (text : List ℕ) → Sixteen (parsed_hyphenated text)
hyphenated_sixteen text = if_sixteen ((length text == 36) && has_hyphens text) (parsed_simple (digits_of text)) (simple_sixteen (digits_of text))

parsed_sixteen : (text : List ℕ) → Sixteen (parsed text)
parsed_sixteen text =
    either_sixteen (length text == 32) (parsed_simple text) (if length text == 36 then parsed_hyphenated text else if length text == 38 then parsed_braced text else if length text == 45 then parsed_urn text else None) (simple_sixteen text)
    (either_sixteen (length text == 36) (parsed_hyphenated text) (if length text == 38 then parsed_braced text else if length text == 45 then parsed_urn text else None) (hyphenated_sixteen text)
    (either_sixteen (length text == 38) (parsed_braced text) (if length text == 45 then parsed_urn text else None)
    (if_sixteen ((length text == 38) && (slice_index text 0 == open_brace) && (slice_index text 37 == close_brace)) (parsed_hyphenated (take 36 (drop 1 text))) (hyphenated_sixteen (take 36 (drop 1 text))))
    (if_sixteen (length text == 45) (parsed_urn text) (if_sixteen ((length text == 45) && has_urn_prefix text) (parsed_hyphenated (drop 9 text)) (hyphenated_sixteen (drop 9 text))))))

-- the identifier that a format is asked for, or that sixteen bytes make
pub uuid_sixteen : (text : Option (List ℕ)) (entropy : List ℕ) → length entropy ≡ 16 → IfSome (uuid_in text entropy) (λ (uuid : List ℕ). length uuid ≡ 16)
uuid_sixteen None entropy sixteen =
    let variant = with_variant entropy RFC4122 in
    length-set variant 6 _ ∙ length-set entropy 8 _ ∙ sixteen
uuid_sixteen (Some text) entropy sixteen = parsed_sixteen text

-- ---- labels

chosen_label : (b : Bool) (text : List ℕ) → (b ≡ true → length text ≤ 64) → IfSome (if b then Some text else None) (λ (label : List ℕ). length label ≤ 64)
chosen_label true text short = short refl
chosen_label false text short = tt

pub label_short : (text : Option (List ℕ)) → IfSome (label_in text) (λ (label : List ℕ). length label ≤ 64)
label_short None = omega arith
label_short (Some text) = chosen_label (is_label text) text (λ is. leb-true (length text) 64 (and_parts (nat_le (length text) 64) (list_all is_label_byte text) is).0)
