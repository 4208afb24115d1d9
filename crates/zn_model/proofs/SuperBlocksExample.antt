-- The example of a super block.
use Rattle.std.proofs.Common.{refl}
use Rattle.zn_model.specs.SuperBlock.{zeros, encoded, number_at, features_of, fields_of, first_difference, first_nonzero, first_bad_label, bad_field, super_refusal, decoded}
use Rattle.zn_model.specs.SuperLaws.{ExampleIsEncoded, ExampleIsDecoded, ZerosAreRefused, LastByteIsCompared, VersionIsRead, LabelIsRead, FeaturesAreRead, PermissionsAreRead, ZerosAreRead}

pub example_is_encoded : ExampleIsEncoded
unfolding encoded
example_is_encoded = refl

pub example_is_decoded : ExampleIsDecoded
unfolding decoded super_refusal number_at zeros first_difference encoded bad_field first_bad_label first_nonzero features_of fields_of
example_is_decoded = refl

pub zeros_are_refused : ZerosAreRefused
unfolding decoded super_refusal number_at zeros
zeros_are_refused = refl

pub last_byte_is_compared : LastByteIsCompared
unfolding decoded super_refusal number_at zeros first_difference encoded
last_byte_is_compared = refl

pub version_is_read : VersionIsRead
unfolding decoded super_refusal number_at zeros first_difference encoded
version_is_read = refl

pub label_is_read : LabelIsRead
unfolding decoded super_refusal number_at zeros first_difference encoded bad_field first_bad_label
label_is_read = (refl, refl)

pub features_are_read : FeaturesAreRead
unfolding decoded super_refusal number_at zeros first_difference encoded bad_field first_bad_label features_of
features_are_read = (refl, refl)

pub permissions_are_read : PermissionsAreRead
unfolding decoded super_refusal number_at zeros first_difference encoded bad_field first_bad_label features_of
permissions_are_read = refl

pub zeros_are_read : ZerosAreRead
unfolding decoded super_refusal number_at zeros first_difference encoded bad_field first_bad_label first_nonzero features_of
zeros_are_read = refl
