-- What stands in the places of a directory and options, without the references in it. (own)
use Rattle.std.specs.Prelude.{option_copied}
use Rattle.zn_words.specs.Parts.{Given}
use Rattle.zn_words.specs.declared.places.Places.{Places}

abbrev pub given_at : Places → Given
given_at places = record {
  dir = places.dir.now;
  force = places.force;
  label = option_copied places.label;
  uuid = option_copied places.uuid;
  options = option_copied places.options;
}
