use Rattle.std.proofs.Common.{map, string_bytes, codes, ◌≡◌, ◌∷◌, [], Some}
use Rattle.clap.specs.Words.{first_value, found_of}
use Rattle.zn_words.proofs.ChurnWords.{all_there}
use Rattle.zn_words.proofs.PlainValues.{same_texts, text_lent}
use Rattle.zn_words.proofs.churning.read.Goals as goal

pub unwrap-requires : goal.unwrap-requires
unwrap-requires c =
    text_lent c.get_str.result _ c.get_str.ensures (all_there _ _ (map string_bytes c.args.words.now) c.requires c.in-Ok.ensures.found).0

pub unwrap-requires-2 : goal.unwrap-requires-2
unwrap-requires-2 c =
    text_lent c.get_str-2.result _ c.get_str-2.ensures (all_there _ _ (map string_bytes c.args.words.now) c.requires c.in-Ok.ensures.found).1

pub returns : goal.returns
returns c =
    let words = map string_bytes c.args.words.now in
    let seed : Some c.unwrap.result.now ≡ first_value (found_of c.in-Ok.found) (codes "SEED") = rw c.unwrap.ensures at c.get_str.ensures in
    let steps : Some c.unwrap-2.result.now ≡ first_value (found_of c.in-Ok.found) (codes "STEPS") = rw c.unwrap-2.ensures at c.get_str-2.ensures in
    let found = c.in-Ok.ensures.found in
    same_texts (c.unwrap.result.now ∷ c.unwrap-2.result.now ∷ []) words (cc)
