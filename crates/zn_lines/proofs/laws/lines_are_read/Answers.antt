use Rattle.std.proofs.Common.{refl}
use Rattle.zn_base.specs.Decimals.{number_in}
use Rattle.zn_lines.specs.Grammar.{part_of, parts_on, data_of, path_of, mode_in, after_key, verb_of, open_line, close_line, size_line, read_line, write_line, truncate_line, sync_line, stat_line, list_line, attr_line, path_change, rename_line, chmod_line, chown_line, line_of}
use Rattle.zn_lines.proofs.laws.lines_are_read.Goals as goal

pub returns : goal.returns
unfolding number_in part_of parts_on data_of path_of mode_in after_key verb_of open_line close_line size_line read_line write_line truncate_line sync_line stat_line list_line attr_line path_change rename_line chmod_line chown_line line_of
returns c = record { opening = refl; close = refl; size = refl; read = refl; read_last = refl; write_one = refl; write_two = refl; truncate = refl; truncate_last = refl; sync = refl; stat = refl; listing = refl; attr = refl; create = refl; rename = refl; chmod = refl; chown = refl }
