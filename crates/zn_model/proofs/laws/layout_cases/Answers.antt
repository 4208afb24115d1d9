use Rattle.std.proofs.Common.{refl}
use Rattle.zn_model.specs.ZoneFiles.{layout_of, file_named, listing_of, place_of}
use Rattle.std.specs.Fmt.{digits}
use Rattle.zn_model.proofs.laws.layout_cases.Goals as goal

pub returns : goal.returns
unfolding digits layout_of file_named listing_of place_of
returns c = record {
  plain = refl;
  aggregated = refl;
  first_file = refl;
  sequential_file = refl;
  leading_zero = refl;
  no_file = refl;
  root = refl;
  cnv = refl;
  file_is_no_directory = refl;
  super_place = refl;
  joined_place = refl;
  seq_place = refl;
  last_place = refl;
  joined_room = refl;
  seq_capacity = refl;
}
