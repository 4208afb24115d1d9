use Rattle.std.proofs.Common.{refl}
use Rattle.zn_base.specs.Decimals.{number_in}
use Rattle.zn_lines.specs.Grammar.{kind_in, worse_in, verb_of, fault_line, turn_line, line_of}
use Rattle.zn_lines.proofs.laws.faults_are_refused.Goals as goal

pub returns : goal.returns
unfolding number_in kind_in worse_in verb_of fault_line turn_line line_of
returns c = record { missing_zone = refl; zone_too_large = refl; missing_kind = refl; no_kind = refl; blank_behind = refl; no_number = refl; number_too_large = refl; one_too_many = refl; missing_turned_zone = refl; turned_zone_too_large = refl; missing_condition = refl; turned_to_good = refl; word_behind_turn = refl }
