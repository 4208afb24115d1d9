use Rattle.std.proofs.Common.{◌≡◌, ℕ, false, cond, eqb, List, [], ◌∷◌, length, Some, None, refl, ap, sym, ◌∙◌, rules}
use Rattle.std.proofs.lemmas.Iterator.{YieldsList-from_slice}
use Rattle.std.proofs.lemmas.Iterator.Search.{all_from_yields_List}
use Rattle.std.specs.List.{list_all}
use borrow.Author.Tests.{tests}
use Rattle.zn_lines.specs.Grammar.{is_printable, path_of}
use Rattle.zn_script.proofs.words.is_path.Goals as goal

tested : (word : List ℕ) → eqb (length word) 0 ≡ false → path_of word ≡ cond (list_all is_printable word) (Some word) None
unfolding path_of
tested [] some = absurd (cc)
tested (b ∷ bytes) some = refl

pub returns-then-not-is_empty : goal.returns-then-not-is_empty
returns-then-not-is_empty c =
    let word = c.args.word.now in
    let all = all_from_yields_List is_printable _ _ _ c.all.ensures.ran (YieldsList-from_slice word cc) (λ x b q k. search (rules, tests)) in
    ap (λ b. cond b (Some word) None) all ∙ sym (tested word (sym c.is_empty.ensures ∙ c.if-not-is_empty.true))
