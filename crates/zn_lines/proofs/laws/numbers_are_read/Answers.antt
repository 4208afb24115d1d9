use Rattle.std.proofs.Common.{refl}
use Rattle.zn_base.specs.Decimals.{number_in}
use Rattle.zn_lines.proofs.laws.numbers_are_read.Goals as goal

pub returns : goal.returns
unfolding number_in
returns c = record { least = refl; greatest = refl; one_more = refl; nothing = refl; two_zeros = refl; leading_zero = refl; sign = refl; letter = refl }
