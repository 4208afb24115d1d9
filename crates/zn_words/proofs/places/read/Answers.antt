use Rattle.std.proofs.Common.{◌≡◌, ◌∙◌, Some, map, string_bytes, codes, sym, ap, Global}
use Rattle.std.proofs.lemmas.Option.{same_Some}
use Rattle.clap.specs.Words.{first_value, found_of}
use Rattle.zn_words.specs.Parts.{Given, given_in}
use Rattle.zn_words.proofs.Standing.{some_given, is_lent, flag_is, given_is}
use Rattle.zn_words.proofs.places.read.Goals as goal

pub unwrap-requires : goal.unwrap-requires
unwrap-requires c =
    let given = some_given (given_in c.args.flags.now (map (string_bytes {Z = Global}) c.args.words.now)) c.requires in
    is_lent _ c.get_str.result _ _ c.get_str.ensures (c.in-Ok.ensures.found given.0 given.1).dir

pub returns : goal.returns
returns c =
    let given = some_given (given_in c.args.flags.now (map (string_bytes {Z = Global}) c.args.words.now)) c.requires in
    let f = c.in-Ok.ensures.found given.0 given.1 in
    let dir : Some c.unwrap.result.now ≡ first_value (found_of c.in-Ok.found) (codes "DIR") = rw c.unwrap.ensures at c.get_str.ensures in
    let none = rw c.word.ensures at c.get_flag.ensures.none in
    let value = rw c.word.ensures at c.get_flag.ensures.value in
    let other = rw c.word.ensures at c.get_flag.ensures.other in
    ap (λ (g : Given). Some g)
    (given_is given.0 _ _ _ _ _ (same_Some _ _ (dir ∙ f.dir))
    (flag_is c.in-Ok.found given.0.force c.get_flag.result f.force none value other)
    ((rw c.word-2.ensures at c.get_str-2.ensures) ∙ f.label) ((rw c.word-3.ensures at c.get_str-3.ensures) ∙ f.uuid) ((rw c.word-4.ensures at c.get_str-4.ensures) ∙ f.options))
    ∙ sym given.1
