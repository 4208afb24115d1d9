use Rattle.std.proofs.Common.{refl}
use Rattle.zn_base.specs.Decimals.{number_in}
use Rattle.zn_lines.specs.Grammar.{kind_in, done_in, byte_of, after_key, cut_of, cuts_on, verb_of, zones_line, power_loss_line, power_loss_in_line, power_on_line, line_of}
use Rattle.zn_lines.proofs.laws.losses_are_read.Goals as goal

pub returns : goal.returns
unfolding number_in kind_in done_in byte_of after_key cut_of cuts_on verb_of zones_line power_loss_line power_loss_in_line power_on_line line_of
returns c = record { zones = refl; plain = refl; fill = refl; cut = refl; twice = refl; both = refl; most = refl; within = refl; last = refl; done = refl; fill_within = refl; all = refl; on = refl }
