-- A block of a super block by its fields.
use Rattle.std.proofs.Common.{◌≡◌, ℕ, ◌+◌, List, length, drop, refl, ◌∙◌, arith}
use Rattle.std.specs.Int.{w32, w64, to_le_bytes}
use Rattle.std.proofs.lemmas.List.{length-append}
use Rattle.zn_base.specs.Texts.{◌⧺◌}
use Rattle.zn_model.specs.SuperBlock.{magic, version, features, zeros, padded, encoded, field_at}
use Rattle.zn_model.specs.SuperLaws.{EncodedLength, EncodedFields, FieldsAreEncoded}
use Rattle.zn_model.proofs.SuperBlocksLists.{length-zeros, length-padded, cut, field_and_rest}

-- ---- nine fields in a row

abbrev joined : List ℕ → List ℕ → List ℕ → List ℕ → List ℕ → List ℕ → List ℕ → List ℕ → List ℕ → List ℕ
joined m v l u f i g p z = m ⧺ v ⧺ l ⧺ u ⧺ f ⧺ i ⧺ g ⧺ p ⧺ z

record AreFields (block m v l u f i g p z : List ℕ) : Type 0 where
  at_magic : field_at block 0 4 ≡ m
  at_version : field_at block 4 4 ≡ v
  at_label : field_at block 8 64 ≡ l
  at_uuid : field_at block 72 16 ≡ u
  at_features : field_at block 88 8 ≡ f
  at_uid : field_at block 96 4 ≡ i
  at_gid : field_at block 100 4 ≡ g
  at_perm : field_at block 104 4 ≡ p
  at_rest : drop 108 block ≡ z

module _ (m v l u f i g p z : List ℕ) where
  length-joined : length (joined m v l u f i g p z) ≡ length m + (length v + (length l + (length u + (length f + (length i + (length g + (length p + length z)))))))
  length-joined = simp length-append

  AreFields-joined : length m ≡ 4 → length v ≡ 4 → length l ≡ 64 → length u ≡ 16 → length f ≡ 8 → length i ≡ 4 → length g ≡ 4 → length p ≡ 4 → AreFields (joined m v l u f i g p z) m v l u f i g p z
  AreFields-joined hm hv hl hu hf hi hg hp =
      let block = joined m v l u f i g p z in
      let m' = cut 0 4 block m (v ⧺ l ⧺ u ⧺ f ⧺ i ⧺ g ⧺ p ⧺ z) refl hm in
      let v' = cut 4 4 block v (l ⧺ u ⧺ f ⧺ i ⧺ g ⧺ p ⧺ z) m'.1 hv in
      let l' = cut 8 64 block l (u ⧺ f ⧺ i ⧺ g ⧺ p ⧺ z) v'.1 hl in
      let u' = cut 72 16 block u (f ⧺ i ⧺ g ⧺ p ⧺ z) l'.1 hu in
      let f' = cut 88 8 block f (i ⧺ g ⧺ p ⧺ z) u'.1 hf in
      let i' = cut 96 4 block i (g ⧺ p ⧺ z) f'.1 hi in
      let g' = cut 100 4 block g (p ⧺ z) i'.1 hg in
      let p' = cut 104 4 block p z g'.1 hp in
      record { at_magic = m'.0; at_version = v'.0; at_label = l'.0; at_uuid = u'.0; at_features = f'.0; at_uid = i'.0; at_gid = g'.0; at_perm = p'.0; at_rest = p'.1 }

-- what stands behind other bytes stays
behind : (front : List ℕ) {rest rest' : List ℕ} → rest ≡ rest' → (front ⧺ rest) ≡ (front ⧺ rest')
behind front e = λ k. front ⧺ e k

-- a block is its fields in a row
by_fields : (block : List ℕ) → block ≡ joined (field_at block 0 4) (field_at block 4 4) (field_at block 8 64) (field_at block 72 16) (field_at block 88 8) (field_at block 96 4) (field_at block 100 4) (field_at block 104 4) (drop 108 block)
by_fields block =
    field_and_rest block 0 4
    ∙ behind (field_at block 0 4) (field_and_rest block 4 4
    ∙ behind (field_at block 4 4) (field_and_rest block 8 64
    ∙ behind (field_at block 8 64) (field_and_rest block 72 16
    ∙ behind (field_at block 72 16) (field_and_rest block 88 8
    ∙ behind (field_at block 88 8) (field_and_rest block 96 4
    ∙ behind (field_at block 96 4) (field_and_rest block 100 4
    ∙ behind (field_at block 100 4) (field_and_rest block 104 4)))))))

joined_again : {block m v l u f i g p z : List ℕ} → AreFields block m v l u f i g p z → block ≡ joined m v l u f i g p z
joined_again {block} are =
    by_fields block
    ∙ (λ k. joined (are.at_magic k) (are.at_version k) (are.at_label k) (are.at_uuid k) (are.at_features k) (are.at_uid k) (are.at_gid k) (are.at_perm k) (are.at_rest k))

-- ---- the laws

pub encoded_length : EncodedLength
unfolding encoded
encoded_length s is =
    omega (arith, length-joined (to_le_bytes w32 magic) (to_le_bytes w32 version) (padded 64 s.label) s.uuid (to_le_bytes w64 (features s.aggr_cnv)) (to_le_bytes w32 s.uid) (to_le_bytes w32 s.gid) (to_le_bytes w32 s.perm) (zeros 3988), length-padded 64 s.label is.label_length, is.uuid_length, length-zeros 3988)

pub encoded_fields : EncodedFields
unfolding encoded
encoded_fields s is =
    let are = AreFields-joined (to_le_bytes w32 magic) (to_le_bytes w32 version) (padded 64 s.label) s.uuid (to_le_bytes w64 (features s.aggr_cnv)) (to_le_bytes w32 s.uid) (to_le_bytes w32 s.gid) (to_le_bytes w32 s.perm) (zeros 3988) refl refl (length-padded 64 s.label is.label_length) is.uuid_length refl refl refl refl in
    record {
      magic_bytes = are.at_magic;
      version_bytes = are.at_version;
      label_bytes = are.at_label;
      uuid_bytes = are.at_uuid;
      features_bytes = are.at_features;
      uid_bytes = are.at_uid;
      gid_bytes = are.at_gid;
      perm_bytes = are.at_perm;
      rest_bytes = are.at_rest;
    }

pub fields_are_encoded : FieldsAreEncoded
unfolding encoded
fields_are_encoded s block has =
    joined_again (record {
      at_magic = has.magic_bytes;
      at_version = has.version_bytes;
      at_label = has.label_bytes;
      at_uuid = has.uuid_bytes;
      at_features = has.features_bytes;
      at_uid = has.uid_bytes;
      at_gid = has.gid_bytes;
      at_perm = has.perm_bytes;
      at_rest = has.rest_bytes;
    })
