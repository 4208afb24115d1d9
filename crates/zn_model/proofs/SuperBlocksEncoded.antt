-- What is read of the block of a super block.
use Rattle.std.proofs.Common.{◌≡◌, ℕ, ◌%◌, ◌^◌, ◌<◌, ◌≤◌, Bool, true, false, eqb, None, Ok, refl, ap, ◌∙◌, arith}
use Rattle.std.specs.Int.{w32, w64, to_le_bytes, from_le_bytes}
use Rattle.std.proofs.lemmas.Nat.{from_le_bytes-to_le_bytes_4, from_le_bytes-to_le_bytes_8}
use Rattle.zn_model.specs.SuperBlock.{SuperBlock, IsSuperBlock, magic, version, features, encoded, field_at, number_at, features_of, fields_of, bad_field}
use Rattle.zn_model.specs.SuperLaws.{HasFieldsOf, EncodedDecodes}
use Rattle.zn_model.proofs.SuperBlocksLists.{first_nonzero-zeros, first_difference_none}
use Rattle.zn_model.proofs.SuperBlocksFields.{encoded_fields}
use Rattle.zn_model.proofs.SuperBlocksSteps.{bad_field-None, decoded-Ok}
use Rattle.zn_model.proofs.SuperBlocksLabel.{first_bad_label-padded, take_while-padded}

-- ---- the features

features-le : (aggr_cnv : Bool) → features aggr_cnv ≤ 1
features-le true = omega arith
features-le false = omega arith

features_bit : (aggr_cnv : Bool) → eqb (features aggr_cnv % 2) 1 ≡ aggr_cnv
features_bit true = refl
features_bit false = refl

-- ---- the block of a super block

module _ (s : SuperBlock) (is : IsSuperBlock s) where
  has : HasFieldsOf s (encoded s)
  has = encoded_fields s is

  number_of : (at n : ℕ) → n < 2 ^ 32 → field_at (encoded s) at 4 ≡ to_le_bytes w32 n → number_at (encoded s) at ≡ n
  unfolding number_at
  number_of at n h e = ap (from_le_bytes w32) e ∙ from_le_bytes-to_le_bytes_4 n h

  magic_read : number_at (encoded s) 0 ≡ magic
  magic_read = number_of 0 magic (omega arith) has.magic_bytes

  version_read : number_at (encoded s) 4 ≡ version
  version_read = number_of 4 version (omega arith) has.version_bytes

  uid_read : number_at (encoded s) 96 ≡ s.uid
  uid_read = number_of 96 s.uid is.uid has.uid_bytes

  gid_read : number_at (encoded s) 100 ≡ s.gid
  gid_read = number_of 100 s.gid is.gid has.gid_bytes

  perm_read : number_at (encoded s) 104 ≡ s.perm
  perm_read = number_of 104 s.perm (omega (arith, is.perm)) has.perm_bytes

  features_read : features_of (encoded s) ≡ features s.aggr_cnv
  unfolding features_of
  features_read =
      ap (from_le_bytes w64) has.features_bytes
      ∙ from_le_bytes-to_le_bytes_8 (features s.aggr_cnv) (omega (arith, features-le s.aggr_cnv))

  good : bad_field (encoded s) ≡ None
  good =
      bad_field-None (encoded s)
      (rw has.label_bytes (first_bad_label-padded 64 s.label is.label_length is.label))
      (rw features_read (features-le s.aggr_cnv))
      (rw perm_read is.perm)
      (rw has.rest_bytes (first_nonzero-zeros 3988))

  read_back : fields_of (encoded s) ≡ s
  unfolding fields_of
  read_back =
      rw (has.label_bytes, has.uuid_bytes, features_read, features_bit s.aggr_cnv, uid_read, gid_read, perm_read, take_while-padded 64 s.label is.label_length is.label)

-- ---- the law

pub encoded_decodes : EncodedDecodes
encoded_decodes s is =
    decoded-Ok (encoded s) (encoded s) (magic_read s is) (first_difference_none (encoded s)) (version_read s is) (good s is)
    ∙ ap Ok (read_back s is)
