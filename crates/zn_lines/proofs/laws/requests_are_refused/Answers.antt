use Rattle.std.proofs.Common.{refl}
use Rattle.zn_base.specs.Decimals.{number_in}
use Rattle.zn_lines.specs.Grammar.{part_of, parts_on, data_of, verb_of, submit_line, complete_line, reap_line, line_of}
use Rattle.zn_lines.proofs.laws.requests_are_refused.Goals as goal

pub returns : goal.returns
unfolding number_in part_of parts_on data_of verb_of submit_line complete_line reap_line line_of
returns c = record { missing_handle = refl; handle_too_large = refl; missing_offset = refl; offset_too_large = refl; missing_data = refl; no_data = refl; word_behind_data = refl; word_behind_complete = refl; blank_behind_complete = refl; word_behind_reap = refl; blank_behind_reap = refl }
