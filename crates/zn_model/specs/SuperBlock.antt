-- The super block: what it holds, its block of 4,096 bytes, and which two blocks are copies of one. (own)
use Rattle.std.specs.Prelude.{◌≡◌, ℕ, ◌+◌, ◌-◌, ◌%◌, ◌^◌, ◌<◌, ◌≤◌, Bool, ◌&&◌, ◌||◌, not, ◌==◌, nat_lt, nat_le, List, [], ◌∷◌, length, take, drop, replicate, if◌then◌else◌, slice_index, Option, Some, None, Result, Ok, Err, option_map}
use Rattle.std.specs.Int.{w32, w64, to_le_bytes, from_le_bytes}
use Rattle.std.specs.List.{All, find, list_all, list_any, position, range_with_len, take_while, zip}
use Rattle.zn_base.specs.Texts.{◌⧺◌}
use Rattle.zn_model.specs.declared.answers.SuperError.{SuperError}
use Rattle.zn_model.specs.declared.answers.SuperError.TheVariants.{BadMagic, CopiesDiffer, BadVersion, BadField}

-- ---- what it holds

-- What a super block holds: the label of the volume, its UUID, whether conventional zones are joined to one
-- file, and the owner, group and permissions of files.
pub record SuperBlock : Type 0 where
  pub label : List ℕ
  pub uuid : List ℕ
  pub aggr_cnv : Bool
  pub uid : ℕ
  pub gid : ℕ
  pub perm : ℕ

-- The super blocks that there are: the label is at most 64 printable bytes, and the permissions have three
-- octal digits.
pub record IsSuperBlock (s : SuperBlock) : Type 0 where
  pub label_length : length s.label ≤ 64
  pub label : All (λ byte. (0x21 ≤ byte) × (byte ≤ 0x7E)) s.label
  pub uuid_length : length s.uuid ≡ 16
  pub uuid : All (λ byte. byte < 256) s.uuid
  pub uid : s.uid < 2 ^ 32
  pub gid : s.gid < 2 ^ 32
  pub perm : s.perm ≤ 0o777

-- ---- as bytes

-- the number that a super block begins with
abbrev pub magic : ℕ
magic = 0x5A4F4653

-- the version of its layout
abbrev pub version : ℕ
version = 1

-- so many zero bytes
unfoldable pub zeros : ℕ → List ℕ
zeros n = replicate n 0

-- the bytes with zeros behind them, up to a length
abbrev pub padded : ℕ → List ℕ → List ℕ
padded n bytes = bytes ⧺ zeros (n - length bytes)

-- the features as bits, of which the lowest is aggregation
abbrev pub features : Bool → ℕ
features aggr_cnv = if aggr_cnv then 1 else 0

-- The block of a super block. Its fields begin at the bytes 0, 4, 8, 72, 88, 96, 100, 104 and 108, and its
-- numbers have their lowest byte first.
unfoldable pub encoded : SuperBlock → List ℕ
encoded s =
    to_le_bytes w32 magic
    ⧺ to_le_bytes w32 version
    ⧺ padded 64 s.label
    ⧺ s.uuid
    ⧺ to_le_bytes w64 (features s.aggr_cnv)
    ⧺ to_le_bytes w32 s.uid
    ⧺ to_le_bytes w32 s.gid
    ⧺ to_le_bytes w32 s.perm
    ⧺ zeros 3988

-- ---- fields of a block

-- so many bytes from a place on
abbrev pub field_at : List ℕ → ℕ → ℕ → List ℕ
field_at block place n = take n (drop place block)

-- the number of four bytes at a place
unfoldable pub number_at : List ℕ → ℕ → ℕ
number_at block place = from_le_bytes w32 (field_at block place 4)

-- the number whose bits are the features
unfoldable pub features_of : List ℕ → ℕ
features_of block = from_le_bytes w64 (field_at block 88 8)

-- a byte that a label may have
abbrev pub is_label_byte : ℕ → Bool
is_label_byte byte = nat_le 0x21 byte && nat_le byte 0x7E

-- a text that may be a label: at most 64 bytes, all such as a label may have
abbrev pub is_label : List ℕ → Bool
is_label text = nat_le (length text) 64 && list_all is_label_byte text

-- what the fields of a block say
unfoldable pub fields_of : List ℕ → SuperBlock
fields_of block = record {
  label = take_while is_label_byte (field_at block 8 64);
  uuid = field_at block 72 16;
  aggr_cnv = features_of block % 2 == 1;
  uid = number_at block 96;
  gid = number_at block 100;
  perm = number_at block 104;
}

-- ---- why two blocks are refused

-- the first answer of a list
abbrev pub first_some : {X : Type 0} → List (Option X) → Option X
first_some [] = None
first_some (None ∷ more) = first_some more
first_some (Some x ∷ more) = Some x

-- the first place where two lists of bytes differ
unfoldable pub first_difference : List ℕ → List ℕ → Option ℕ
first_difference first second = position (λ both. not (both.0 == both.1)) (zip first second)

-- the first place of a byte that isn't zero
unfoldable pub first_nonzero : List ℕ → Option ℕ
first_nonzero bytes = position (λ byte. not (byte == 0)) bytes

-- whether the byte at a place of a label's field is neither zero nor one of a label, or isn't zero after a zero
abbrev pub is_bad_label_at : List ℕ → ℕ → Bool
is_bad_label_at field k =
    not (slice_index field k == 0) && (not (is_label_byte (slice_index field k)) || list_any (λ byte. byte == 0) (take k field))

-- the first such place
unfoldable pub first_bad_label : List ℕ → Option ℕ
first_bad_label field = find (is_bad_label_at field) (range_with_len 0 (length field))

-- the place of the first field that is out of its form: a label's byte, unknown features, permissions of more
-- than three octal digits, and a byte behind the fields that isn't zero
unfoldable pub bad_field : List ℕ → Option ℕ
bad_field block = first_some (
    option_map (λ k. 8 + k) (first_bad_label (field_at block 8 64))
    ∷ (if nat_lt 1 (features_of block) then Some 88 else None)
    ∷ (if nat_lt 0o777 (number_at block 104) then Some 104 else None)
    ∷ option_map (λ k. 108 + k) (first_nonzero (drop 108 block))
    ∷ [])

-- why two blocks are no copies of a super block: the first block's magic differs, the blocks differ, their
-- version is another one, or a field is out of its form
unfoldable pub super_refusal : List ℕ → List ℕ → Option SuperError
super_refusal first second = first_some (
    (if number_at first 0 == magic then None else Some BadMagic)
    ∷ option_map CopiesDiffer (first_difference first second)
    ∷ (if number_at first 4 == version then None else Some (BadVersion (number_at first 4)))
    ∷ option_map BadField (bad_field first)
    ∷ [])

-- ---- as read

-- the value, where there is no error
abbrev pub unless_error : {X E : Type 0} → Option E → X → Result X E
unless_error None value = Ok value
unless_error (Some error) value = Err error

-- the super block of which both blocks are copies, or else why there is none
unfoldable pub decoded : List ℕ → List ℕ → Result SuperBlock SuperError
decoded first second = unless_error (super_refusal first second) (fields_of first)
