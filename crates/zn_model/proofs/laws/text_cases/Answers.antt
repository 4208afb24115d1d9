use Rattle.std.proofs.Common.{refl}
use Rattle.zn_base.specs.Decimals.{number_in}
use Rattle.zn_base.specs.Runs.{runs_of}
use Rattle.zn_model.specs.Options.{mount_options, format_options}
use Rattle.std.specs.Fmt.{digits}
use Rattle.zn_model.proofs.laws.text_cases.Goals as goal

pub returns : goal.returns
unfolding digits runs_of mount_options format_options number_in
returns c = record {
  runs = refl;
  default = refl;
  repair = refl;
  bad_policy = refl;
  unknown = refl;
  repeated = refl;
  empty_item = refl;
  no_policy = refl;
  no_sign = refl;
  format = refl;
  format_default = refl;
  big_permissions = refl;
  four_digits = refl;
  leading_zero = refl;
}
