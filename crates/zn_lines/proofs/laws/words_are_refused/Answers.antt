use Rattle.std.proofs.Common.{refl}
use Rattle.zn_base.specs.Decimals.{number_in}
use Rattle.zn_lines.specs.Grammar.{path_of, mode_in, after_key, verb_of, open_line, size_line, read_line, truncate_line, sync_line, stat_line, attr_line, chown_line, line_of}
use Rattle.zn_lines.proofs.laws.words_are_refused.Goals as goal

pub returns : goal.returns
unfolding number_in path_of mode_in after_key verb_of open_line size_line read_line truncate_line sync_line stat_line attr_line chown_line line_of
returns c = record { missing_handle = refl; two_blanks = refl; leading_zero = refl; handle_too_large = refl; blank_behind = refl; one_too_many = refl; missing_offset = refl; offset_too_large = refl; length_too_large = refl; missing_size = refl; size_too_large = refl; size_with_a_sign = refl; word_behind_size = refl; missing_synced_handle = refl; synced_handle_too_large = refl; word_behind_sync = refl; word_behind_attr = refl; blank_behind_attr = refl; mode_the_other_way = refl; path_not_printable = refl; user_too_large = refl }
