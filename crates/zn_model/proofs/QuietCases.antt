-- The small device that doesn't tell its bytes.
use Rattle.std.proofs.Common.{refl}
use Rattle.zn_truth.specs.Orders.{done}
use Rattle.zn_truth.specs.World.{issue, met, unmet}
use Rattle.zn_model.specs.SuperBlock.{zeros, encoded, number_at, features_of, fields_of, first_difference, first_nonzero, first_bad_label, bad_field, super_refusal, decoded}
use Rattle.zn_model.specs.Mounting.{fresh_volume, mount_call}
use Rattle.zn_model.specs.Formatting.{format_call}
use Rattle.zn_model.specs.Reading.{read_now}
use Rattle.zn_truth.specs.OrderLists.{each_zone}
use Rattle.zn_model.specs.ZoneFiles.{layout_of}
use Rattle.zn_model.specs.GivenCases.{GivenCases}

pub given_cases : GivenCases
unfolding decoded super_refusal number_at zeros first_difference encoded bad_field first_bad_label first_nonzero features_of fields_of mount_call issue met unmet done fresh_volume format_call read_now each_zone layout_of
given_cases = record { mounted = refl; refused = refl; unfull = λ given. refl; formatted = refl; written = refl; read = refl }
