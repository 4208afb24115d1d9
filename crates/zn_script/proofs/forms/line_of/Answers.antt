use Rattle.std.proofs.Common.{sym}
use Rattle.zn_script.proofs.Splitting.{verb_then, verb_none, line_along}
use Rattle.zn_script.proofs.forms.line_of.Goals as goal

pub returns-in-Some : goal.returns-in-Some
returns-in-Some c = line_along _ _ _ (verb_then c.args.line.now c.word_end-end.result c.in-Some.verb c.word_end-end.ensures.word (sym c.in-Some.ensures)) c.line_with.ensures

pub returns-in-None : goal.returns-in-None
returns-in-None c = verb_none c.args.line.now c.word_end-end.result c.word_end-end.ensures.word (sym c.in-None.ensures)
