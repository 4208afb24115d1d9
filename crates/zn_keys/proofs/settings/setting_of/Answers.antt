use Rattle.std.proofs.Common.{None, sym, ◌∙◌, arith}
use Rattle.std.proofs.lemmas.Str.Pattern.{split_once_first}
use Rattle.zn_keys.proofs.Refusals.{without_equals}
use Rattle.zn_keys.proofs.settings.setting_of.Goals as goal

pub returns-in_err-key : goal.returns-in_err-key
returns-in_err-key c = c.from_residual.ensures ∙ sym (without_equals c.args.word.now (split_once_first 61 c.args.word.now None c.in_err-key.ensures.cases (omega arith)))
