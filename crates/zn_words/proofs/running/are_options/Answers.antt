use Rattle.std.proofs.Common.{◌≡◌, ◌∙◌, ◌&&◌, Bool, length, ap, sym, rules, tests}
use Rattle.std.specs.List.{list_all}
use Rattle.std.proofs.lemmas.Bool.{le-leb}
use Rattle.std.proofs.lemmas.Iterator.{YieldsList-from_slice}
use Rattle.std.proofs.lemmas.Iterator.Search.{all_from_yields_List}
use Rattle.zn_words.specs.Commands.{is_visible}
use Rattle.zn_words.specs.declared.commands.TheConstants.{MOST_OPTIONS}
use Rattle.zn_words.proofs.running.are_options.Goals as goal

pub returns-then-word-le-MOST_OPTIONS : goal.returns-then-word-le-MOST_OPTIONS
returns-then-word-le-MOST_OPTIONS c =
    let word = c.args.word.now in
    let all : c.all.result ≡ list_all is_visible word =
    rw c.as_bytes.ensures.value at (all_from_yields_List is_visible _ _ c.all.result c.all.ensures.ran (YieldsList-from_slice c.as_bytes.result.now cc) (λ x b q k. search (rules, tests))) in
    all ∙ ap (λ (b : Bool). b && list_all is_visible word) (sym (le-leb (length word) MOST_OPTIONS c.if-word-le-MOST_OPTIONS.true))
