use Rattle.std.proofs.Common.{refl}
use Rattle.zn_base.specs.Decimals.{number_in}
use Rattle.zn_lines.specs.Grammar.{path_of, mode_in, after_key, verb_of, open_line, line_of}
use Rattle.zn_lines.proofs.laws.users_are_read.Goals as goal

pub returns : goal.returns
unfolding number_in path_of mode_in after_key verb_of open_line line_of
returns c = record { both = refl; user = refl; group = refl; zeros = refl }
