use Rattle.std.proofs.Common.{refl}
use Rattle.zn_base.specs.Decimals.{number_in}
use Rattle.zn_lines.specs.Grammar.{part_of, parts_on, data_of, verb_of, write_line, line_of}
use Rattle.zn_lines.proofs.laws.data_is_refused.Goals as goal

pub returns : goal.returns
unfolding number_in part_of parts_on data_of verb_of write_line line_of
returns c = record { half_a_byte = refl; capital_digit = refl; no_count = refl; no_second_part = refl; count_too_large = refl; counts_too_large = refl }
