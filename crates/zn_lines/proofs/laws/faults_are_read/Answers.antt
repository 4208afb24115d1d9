use Rattle.std.proofs.Common.{refl}
use Rattle.zn_base.specs.Decimals.{number_in}
use Rattle.zn_lines.specs.Grammar.{kind_in, worse_in, verb_of, fault_line, turn_line, line_of}
use Rattle.zn_lines.proofs.laws.faults_are_read.Goals as goal

pub returns : goal.returns
unfolding number_in kind_in worse_in verb_of fault_line turn_line line_of
returns c = record { fault = refl; part = refl; part_of_a_read = refl; last = refl; report = refl; turn = refl; turn_last = refl }
