use Rattle.std.proofs.Common.{refl}
use Rattle.zn_lines.specs.Grammar.{verb_of, line_of}
use Rattle.zn_lines.proofs.laws.verbs_are_refused.Goals as goal

pub returns : goal.returns
unfolding verb_of line_of
returns c = record { nothing = refl; other = refl; capital = refl; blank_before = refl; longer_verb = refl }
