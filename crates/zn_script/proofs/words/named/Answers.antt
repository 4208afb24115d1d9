use Rattle.std.proofs.Common.{◌∙◌, Some, ap, rules, tests, arith}
use Rattle.std.proofs.lemmas.Grind.{common_steps}
use Rattle.std.proofs.lemmas.Iterator.{YieldsList-from_slice}
use Rattle.std.proofs.lemmas.Iterator.Search.{find_from_yields_List}
use Rattle.std.specs.Option.{option_map}
use Rattle.std.specs.Str.{bytes_eq}
use Rattle.zn_script.proofs.WordValues.{found_in}
use Rattle.zn_script.proofs.words.named.Goals as goal

pub returns-in_err-entry : goal.returns-in_err-entry
returns-in_err-entry g c =
    let found = find_from_yields_List (λ e. bytes_eq c.args.word.now e.0.now) _ _ _ c.find.ensures.ran (YieldsList-from_slice c.args.table.now cc) (λ x b q k. search (rules, tests)) in
    let value = ap (option_map (λ e. e.1)) found ∙ found_in (λ e. e.0.now) (λ e. e.1) c.args.table.now c.args.word.now in
    grind (arith, common_steps, value)

pub returns : goal.returns
returns g c =
    let found = find_from_yields_List (λ e. bytes_eq c.args.word.now e.0.now) c.find.new.self _ (Some c.in_ok-entry.entry) c.in_ok-entry.ensures.ran (YieldsList-from_slice c.args.table.now cc) (λ x b q k. search (rules, tests)) in
    ap (option_map (λ e. e.1)) found ∙ found_in (λ e. e.0.now) (λ e. e.1) c.args.table.now c.args.word.now
