use Rattle.std.proofs.Common.{map, string_bytes, sym}
use Rattle.zn_words.proofs.ChurnWords.{not_values_refused}
use Rattle.zn_words.proofs.churning.parse.Goals as goal

pub returns-then-not-are_values-clause-asked : goal.returns-then-not-are_values-clause-asked
returns-then-not-are_values-clause-asked c = sym (not_values_refused (map string_bytes c.args.words.now) (sym c.if-not-are_values.ensures))
