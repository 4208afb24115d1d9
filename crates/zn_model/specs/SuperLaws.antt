-- Laws of the super block, and an example of one.
use Rattle.std.specs.Prelude.{◌≡◌, ◌≢◌, ◌<◌, ◌≤◌, ◌⊎◌, ℕ, true, List, [], ◌∷◌, length, drop, slice_index, slice_set, Result, Ok, Err}
use Rattle.std.specs.Int.{w32, w64, to_le_bytes}
use Rattle.std.specs.List.{All}
use Rattle.zn_base.specs.Texts.{◌⧺◌}
use Rattle.zn_truth.specs.declared.limits.TheConstants.{BLOCK_SIZE}
use Rattle.zn_model.specs.declared.answers.SuperError.{SuperError}
use Rattle.zn_model.specs.declared.answers.SuperError.TheVariants.{BadMagic, CopiesDiffer, BadVersion, BadField}
use Rattle.zn_model.specs.SuperBlock.{SuperBlock, IsSuperBlock, magic, version, features, zeros, padded, encoded, field_at, number_at, features_of, fields_of, decoded}

-- ---- an example

-- 6ba7b810-9dad-11d1-80b4-00c04fd430c8
abbrev pub example_uuid : List ℕ
example_uuid = 0x6B ∷ 0xA7 ∷ 0xB8 ∷ 0x10 ∷ 0x9D ∷ 0xAD ∷ 0x11 ∷ 0xD1 ∷ 0x80 ∷ 0xB4 ∷ 0x00 ∷ 0xC0 ∷ 0x4F ∷ 0xD4 ∷ 0x30 ∷ 0xC8 ∷ []

-- the label is `data`
abbrev pub example : SuperBlock
example = record {
  label = 0x64 ∷ 0x61 ∷ 0x74 ∷ 0x61 ∷ [];
  uuid = example_uuid;
  aggr_cnv = true;
  uid = 1000;
  gid = 100;
  perm = 0o660;
}

-- its block
abbrev pub ExampleIsEncoded : Type 0
ExampleIsEncoded = encoded example ≡ (
    (0x53 ∷ 0x46 ∷ 0x4F ∷ 0x5A ∷ [])
    ⧺ (0x01 ∷ 0x00 ∷ 0x00 ∷ 0x00 ∷ [])
    ⧺ (0x64 ∷ 0x61 ∷ 0x74 ∷ 0x61 ∷ [])
    ⧺ zeros 60
    ⧺ example_uuid
    ⧺ (0x01 ∷ 0x00 ∷ 0x00 ∷ 0x00 ∷ 0x00 ∷ 0x00 ∷ 0x00 ∷ 0x00 ∷ [])
    ⧺ (0xE8 ∷ 0x03 ∷ 0x00 ∷ 0x00 ∷ [])
    ⧺ (0x64 ∷ 0x00 ∷ 0x00 ∷ 0x00 ∷ [])
    ⧺ (0xB0 ∷ 0x01 ∷ 0x00 ∷ 0x00 ∷ [])
    ⧺ zeros 3988)

-- two copies of it are read as what it is
abbrev pub ExampleIsDecoded : Type 0
ExampleIsDecoded = decoded (encoded example) (encoded example) ≡ Ok example

-- two blocks of zeros are refused for their magic
abbrev pub ZerosAreRefused : Type 0
ZerosAreRefused = decoded (zeros 4096) (zeros 4096) ≡ Err BadMagic

-- the example, but for the last byte of its second block
abbrev pub LastByteIsCompared : Type 0
LastByteIsCompared = decoded (encoded example) (slice_set (encoded example) 4095 1) ≡ Err (CopiesDiffer 4095)

-- both blocks of the example with another byte at a place
abbrev pub decoded_with : ℕ → ℕ → Result SuperBlock SuperError
decoded_with place byte = decoded (slice_set (encoded example) place byte) (slice_set (encoded example) place byte)

-- version 7
abbrev pub VersionIsRead : Type 0
VersionIsRead = decoded_with 4 7 ≡ Err (BadVersion 7)

-- a byte that no label has, and one behind a zero byte
abbrev pub LabelIsRead : Type 0
LabelIsRead = (decoded_with 9 0x20 ≡ Err (BadField 9)) × (decoded_with 13 0x61 ≡ Err (BadField 13))

-- the second feature, and a bit of the last byte of the features
abbrev pub FeaturesAreRead : Type 0
FeaturesAreRead = (decoded_with 88 3 ≡ Err (BadField 88)) × (decoded_with 95 1 ≡ Err (BadField 88))

-- permissions 0o1260
abbrev pub PermissionsAreRead : Type 0
PermissionsAreRead = decoded_with 105 2 ≡ Err (BadField 104)

-- a byte behind the fields
abbrev pub ZerosAreRead : Type 0
ZerosAreRead = decoded_with 200 1 ≡ Err (BadField 200)

-- ---- blocks that are written

-- A block has each field of a super block at its place.
pub record HasFieldsOf (s : SuperBlock) (block : List ℕ) : Type 0 where
  pub magic_bytes : field_at block 0 4 ≡ to_le_bytes w32 magic
  pub version_bytes : field_at block 4 4 ≡ to_le_bytes w32 version
  pub label_bytes : field_at block 8 64 ≡ padded 64 s.label
  pub uuid_bytes : field_at block 72 16 ≡ s.uuid
  pub features_bytes : field_at block 88 8 ≡ to_le_bytes w64 (features s.aggr_cnv)
  pub uid_bytes : field_at block 96 4 ≡ to_le_bytes w32 s.uid
  pub gid_bytes : field_at block 100 4 ≡ to_le_bytes w32 s.gid
  pub perm_bytes : field_at block 104 4 ≡ to_le_bytes w32 s.perm
  pub rest_bytes : drop 108 block ≡ zeros 3988

-- a super block's block has 4,096 bytes
abbrev pub EncodedLength : Type 0
EncodedLength = (s : SuperBlock) → IsSuperBlock s → length (encoded s) ≡ BLOCK_SIZE

-- it has each field at its place
abbrev pub EncodedFields : Type 0
EncodedFields = (s : SuperBlock) → IsSuperBlock s → HasFieldsOf s (encoded s)

-- and is the only block that has
abbrev pub FieldsAreEncoded : Type 0
FieldsAreEncoded = (s : SuperBlock) (block : List ℕ) → HasFieldsOf s block → block ≡ encoded s

-- ---- blocks that are read

-- two copies of a super block's block are read as that super block
abbrev pub EncodedDecodes : Type 0
EncodedDecodes = (s : SuperBlock) → IsSuperBlock s → decoded (encoded s) (encoded s) ≡ Ok s

-- two blocks that are read as a super block are copies of its block, so it has no other text
abbrev pub DecodedIsEncoded : Type 0
DecodedIsEncoded =
    (first second : List ℕ) (s : SuperBlock)
    → length first ≡ BLOCK_SIZE → length second ≡ BLOCK_SIZE
    → All (λ byte. byte < 256) first → All (λ byte. byte < 256) second
    → decoded first second ≡ Ok s
    → (first ≡ encoded s) × (second ≡ encoded s) × IsSuperBlock s

-- ---- refusals, in their order

-- a first block with another magic
abbrev pub MagicIsFirst : Type 0
MagicIsFirst = (first second : List ℕ) → number_at first 0 ≢ magic → decoded first second ≡ Err BadMagic

-- a place where blocks differ that are the same before it
pub record IsFirstDifference (first second : List ℕ) (place : ℕ) : Type 0 where
  pub within : place < BLOCK_SIZE
  pub differ : slice_index first place ≢ slice_index second place
  pub before : (k : ℕ) → k < place → slice_index first k ≡ slice_index second k

-- then copies that differ
abbrev pub CopiesAreNext : Type 0
CopiesAreNext =
    (first second : List ℕ) (place : ℕ)
    → length first ≡ BLOCK_SIZE → length second ≡ BLOCK_SIZE
    → number_at first 0 ≡ magic
    → IsFirstDifference first second place
    → decoded first second ≡ Err (CopiesDiffer place)

-- then another version
abbrev pub VersionIsNext : Type 0
VersionIsNext =
    (block : List ℕ) → number_at block 0 ≡ magic → number_at block 4 ≢ version
    → decoded block block ≡ Err (BadVersion (number_at block 4))

-- The place of a byte of the label that is neither printable nor zero, or isn't zero after a zero byte.
pub record IsBadLabelPlace (block : List ℕ) (place : ℕ) : Type 0 where
  pub from : 8 ≤ place
  pub before : place < 72
  pub byte : slice_index block place ≢ 0
  pub bad : ¬ ((0x21 ≤ slice_index block place) × (slice_index block place ≤ 0x7E))
      ⊎ ((k : ℕ) × (8 ≤ k) × (k < place) × (slice_index block k ≡ 0))

-- A place that is out of its form: of a label's byte, of the features where an unknown one is set, of the
-- permissions where they are too large, or of a byte behind them that isn't zero.
pub data IsBadPlace (block : List ℕ) (place : ℕ) : Type 0 where
  of_label : IsBadLabelPlace block place → IsBadPlace block place
  of_features : place ≡ 88 → 1 < features_of block → IsBadPlace block place
  of_perm : place ≡ 104 → 0o777 < number_at block 104 → IsBadPlace block place
  of_rest : 108 ≤ place → slice_index block place ≢ 0 → IsBadPlace block place

-- and last the least place that is out of its form
abbrev pub FieldsAreLast : Type 0
FieldsAreLast =
    (block : List ℕ) (place : ℕ)
    → length block ≡ BLOCK_SIZE
    → number_at block 0 ≡ magic → number_at block 4 ≡ version
    → IsBadPlace block place → ((k : ℕ) → k < place → ¬ IsBadPlace block k)
    → decoded block block ≡ Err (BadField place)

-- and two copies of any other block are read
abbrev pub OthersAreRead : Type 0
OthersAreRead =
    (block : List ℕ)
    → length block ≡ BLOCK_SIZE
    → number_at block 0 ≡ magic → number_at block 4 ≡ version
    → ((k : ℕ) → ¬ IsBadPlace block k)
    → decoded block block ≡ Ok (fields_of block)
