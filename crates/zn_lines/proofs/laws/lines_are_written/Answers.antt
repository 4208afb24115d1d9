use Rattle.std.proofs.Common.{refl}
use Rattle.std.specs.Fmt.{digits}
use Rattle.zn_lines.specs.LineTexts.{line_words}
use Rattle.zn_lines.proofs.laws.lines_are_written.Goals as goal

pub returns : goal.returns
unfolding digits line_words
returns c = record { format = refl; mount = refl; opening = refl; opening_as = refl; size = refl; read = refl; read_last = refl; write_one = refl; write_two = refl; truncate = refl; truncate_last = refl; sync = refl; attr = refl; fault = refl; fault_part = refl; turn = refl; submit = refl; complete = refl; reap = refl; zones = refl; loss = refl; loss_two = refl; loss_within = refl; loss_after = refl; on = refl }
