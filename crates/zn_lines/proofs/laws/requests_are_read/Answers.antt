use Rattle.std.proofs.Common.{refl}
use Rattle.zn_base.specs.Decimals.{number_in}
use Rattle.zn_lines.specs.Grammar.{part_of, parts_on, data_of, verb_of, submit_line, complete_line, reap_line, line_of}
use Rattle.zn_lines.proofs.laws.requests_are_read.Goals as goal

pub returns : goal.returns
unfolding number_in part_of parts_on data_of verb_of submit_line complete_line reap_line line_of
returns c = record { submit = refl; last = refl; complete = refl; reap = refl }
