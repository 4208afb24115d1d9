use Rattle.std.proofs.Common.{◌≡◌, ◌+◌, length, take, drop}
use Rattle.std.specs.Str.{bytes_eq}
use Rattle.zn_lines.specs.Grammar.{after_key}
use Rattle.zn_script.proofs.WordValues.{stripped}
use Rattle.zn_script.proofs.words.after_key.Goals as goal

pub returns-clause-value : goal.returns-clause-value
unfolding after_key
returns-clause-value c =
    let word = c.args.word.now in
    let key = c.args.key.now in
    stripped (bytes_eq (take (length key) word) key) (drop (length key) word) (λ x. length x.now + length key ≡ length word) c.strip_prefix.result c.strip_prefix.ensures.cases
