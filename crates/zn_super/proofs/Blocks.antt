-- Blocks, as they are written and read.
use Rattle.std.proofs.Common.{◌≡◌, ℕ, ◌+◌, ◌<◌, ◌≤◌, ◌^◌, true, List, ◌++◌, length, get_or, take, drop, replicate, Option, Some, None, Ok, Err, Result, refl, sym, append_assoc, arith, ⊎_elim}
use Rattle.std.specs.Prelude.{IsTrue, IfOk, option_map}
use Rattle.std.specs.Int.{w32, w64, to_le_bytes}
use Rattle.std.specs.List.{All}
use Rattle.std.proofs.lemmas.Bool.{cases_lt}
use Rattle.std.proofs.lemmas.List.{length-take, get_or-take, get_or-drop, get_or_past}
use Rattle.std.proofs.lemmas.List.Elements.{All-from_get_or, All-get_or}
use Rattle.std.proofs.lemmas.List.Sums.{AllPass-from_list_all}
use Rattle.zn_model.specs.declared.answers.SuperError.{SuperError}
use Rattle.zn_model.specs.SuperBlock.{SuperBlock, IsSuperBlock, magic, version, features, zeros, padded, encoded, field_at, number_at, features_of, first_nonzero, first_bad_label, bad_field, decoded, is_label, is_label_byte}
use Rattle.zn_model.proofs.SuperBlocksDecoded.{decoded_is_encoded}
use Rattle.zn_model.proofs.SuperBlocksLabel.{IsLabelByte-from}
use Rattle.zn_model.proofs.SuperBlocksSteps.{bad_field-label, bad_field-features, bad_field-perm, bad_field-rest, bad_field-None, decoded-magic, decoded-copies, decoded-version, decoded-field, decoded-Ok}
use Rattle.zn_super.specs.Copies.{AreCopies}
use Rattle.zn_super.proofs.Labels.{label_parts}

-- ---- refusals one after another

-- the last reason is a byte behind the fields
pub bad_field-last : (block : List ℕ) → first_bad_label (field_at block 8 64) ≡ None → features_of block ≤ 1 → number_at block 104 ≤ 0o777
    → bad_field block ≡ option_map (λ k. 108 + k) (first_nonzero (drop 108 block))
bad_field-last block label known small = by_place (first_nonzero (drop 108 block)) refl
  where
    by_place : (o : Option ℕ) → first_nonzero (drop 108 block) ≡ o → bad_field block ≡ option_map (λ k. 108 + k) o
    by_place None e = bad_field-None block label known small e
    by_place (Some k) e = bad_field-rest block label k known small e

pub ruleset field_refusals = (bad_field-label, bad_field-features, bad_field-perm, bad_field-last)

pub ruleset refusals = (decoded-magic, decoded-copies, decoded-version, decoded-field, decoded-Ok)

-- ---- what is read

bytes_all : (bytes : List ℕ) → ((k : ℕ) → get_or bytes k 0 < 256) → All (λ byte. byte < 256) bytes
bytes_all bytes each = All-from_get_or (λ (byte : ℕ). byte < 256) bytes 0 (λ k h. each k)

-- bytes of a part
pub byte_of-take : (n : ℕ) (bytes : List ℕ) → ((k : ℕ) → get_or bytes k 0 < 256) → (k : ℕ) → get_or (take n bytes) k 0 < 256
byte_of-take n bytes each k =
    ⊎_elim
    (λ h. rw (get_or-take n bytes k 0 h) (each k))
    (λ h. rw (get_or_past (take n bytes) k 0 (omega (arith, length-take n bytes))) (omega arith))
    (cases_lt k n)

pub byte_of-drop : (n : ℕ) (bytes : List ℕ) → ((k : ℕ) → get_or bytes k 0 < 256) → (k : ℕ) → get_or (drop n bytes) k 0 < 256
byte_of-drop n bytes each k = rw (get_or-drop n bytes k 0) (each (n + k))

pub copies_read : (r : Result SuperBlock SuperError) (first second : List ℕ) → length first ≡ 4096 → length second ≡ 4096
    → ((k : ℕ) → get_or first k 0 < 256) → ((k : ℕ) → get_or second k 0 < 256) → r ≡ decoded first second → IfOk r (λ s. AreCopies first second s)
copies_read (Ok s) first second long long' bytes bytes' e =
    let is = decoded_is_encoded first second s long long' (bytes_all first bytes) (bytes_all second bytes') (sym e) in
    record { first_copy = is.0; second_copy = is.1; sound = is.2 }
copies_read (Err error) first second long long' bytes bytes' e = tt

-- ---- what is written

-- the fields one behind another, from the last on
pub written : (out p g i f u l v m : List ℕ) (s : SuperBlock)
    → out ≡ p ++ replicate 3988 0 → p ≡ g ++ to_le_bytes w32 s.perm → g ≡ i ++ to_le_bytes w32 s.gid → i ≡ f ++ to_le_bytes w32 s.uid
    → f ≡ u ++ to_le_bytes w64 (features s.aggr_cnv) → u ≡ l ++ s.uuid → l ≡ v ++ padded 64 s.label → v ≡ m ++ to_le_bytes w32 version → m ≡ to_le_bytes w32 magic
    → out ≡ encoded s
unfolding encoded zeros
written out p g i f u l v m s is_out is_p is_g is_i is_f is_u is_l is_v is_m =
    rw (is_out, is_p, is_g, is_i, is_f, is_u, is_l, is_v, is_m) (simp append_assoc)

-- what is written is read back
pub is_super_block : (s : SuperBlock) → IsTrue (is_label s.label) → length s.uuid ≡ 16 → ((k : ℕ) → get_or s.uuid k 0 < 256) → s.uid < 2 ^ 32 → s.gid < 2 ^ 32 → s.perm ≤ 0o777 → IsSuperBlock s
is_super_block s is long bytes uid gid perm =
    let parts = label_parts s.label is in
    record {
      label_length = parts.0;
      label = All-from_get_or (λ (byte : ℕ). (0x21 ≤ byte) × (byte ≤ 0x7E)) s.label 0
          (λ k h. IsLabelByte-from (get_or s.label k 0) (All-get_or (λ (byte : ℕ). is_label_byte byte ≡ true) s.label k 0 h (AllPass-from_list_all is_label_byte s.label parts.1)));
      uuid_length = long;
      uuid = bytes_all s.uuid bytes;
      uid = uid;
      gid = gid;
      perm = perm;
    }
