use Rattle.std.proofs.Common.{ap, ◌∙◌, sym}
use Rattle.std.proofs.lemmas.List.{take_rest}
use Rattle.std.specs.List.{position}
use Rattle.zn_lines.specs.Words.{is_blank}
use Rattle.zn_script.proofs.Splitting.{word_found, word_last}
use Rattle.zn_script.proofs.words.word_end.Goals as goal

pub returns-in-Some-clause-word : goal.returns-in-Some-clause-word
returns-in-Some-clause-word c = word_found c.args.line.now c.args.at c.in-Some.len c.requires (ap (position is_blank) (sym (take_rest c.args.line.now c.args.at)) ∙ sym c.in-Some.ensures)

pub returns-in-None-clause-word : goal.returns-in-None-clause-word
returns-in-None-clause-word c = word_last c.args.line.now c.args.at c.requires (ap (position is_blank) (sym (take_rest c.args.line.now c.args.at)) ∙ sym c.in-None.ensures)
