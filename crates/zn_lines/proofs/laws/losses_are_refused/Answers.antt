use Rattle.std.proofs.Common.{refl}
use Rattle.zn_base.specs.Decimals.{number_in}
use Rattle.zn_lines.specs.Grammar.{kind_in, done_in, byte_of, after_key, cut_of, cuts_on, verb_of, zones_line, power_loss_line, power_loss_in_line, power_on_line, line_of}
use Rattle.zn_lines.proofs.laws.losses_are_refused.Goals as goal

pub returns : goal.returns
unfolding number_in kind_in done_in byte_of after_key cut_of cuts_on verb_of zones_line power_loss_line power_loss_in_line power_on_line line_of
returns c = record { word_behind_zones = refl; blank_behind_zones = refl; word_behind_on = refl; blank_behind = refl; fill_twice = refl; fill_behind_cut = refl; capital_fill = refl; short_fill = refl; long_fill = refl; empty_fill = refl; done_without_a_command = refl; zone_alone = refl; no_blocks = refl; no_zone = refl; two_colons = refl; zone_too_large = refl; blocks_too_large = refl; leading_zero = refl; two_blanks = refl; one_too_many = refl; missing_zone = refl; zone_too_large_within = refl; missing_kind = refl; no_kind = refl; done_behind_fill = refl; done_twice = refl; done_behind_cut = refl }
