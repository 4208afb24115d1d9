use Rattle.std.proofs.Common.{refl}
use Rattle.zn_base.specs.Decimals.{number_in}
use Rattle.zn_lines.specs.Grammar.{path_of, mode_in, after_key, verb_of, open_line, line_of}
use Rattle.zn_lines.proofs.laws.users_are_refused.Goals as goal

pub returns : goal.returns
unfolding number_in path_of mode_in after_key verb_of open_line line_of
returns c = record { group_first = refl; user_twice = refl; group_twice = refl; user_too_large = refl; empty_group = refl; missing_mode = refl; one_too_many = refl }
