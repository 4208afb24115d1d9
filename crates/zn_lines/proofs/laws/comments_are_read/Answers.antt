use Rattle.std.proofs.Common.{refl}
use Rattle.zn_base.specs.Decimals.{number_in}
use Rattle.zn_lines.specs.Grammar.{verb_of, size_line, line_of, reading_of}
use Rattle.zn_lines.proofs.laws.comments_are_read.Goals as goal

pub returns : goal.returns
unfolding number_in verb_of size_line line_of reading_of
returns c = record { nothing = refl; comment = refl; mark = refl; line = refl; blank_before = refl }
