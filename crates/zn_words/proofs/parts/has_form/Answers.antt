use Rattle.std.proofs.Common.{◌≡◌, ◌∙◌, ◌&&◌, Bool, ap, map, nat_le, string_bytes, sym, Global, rules, tests}
use Rattle.std.specs.List.{list_all}
use Rattle.std.proofs.lemmas.Iterator.{YieldsList-from_slice}
use Rattle.std.proofs.lemmas.Iterator.Consumers.{YieldsList-from_first}
use Rattle.std.proofs.lemmas.Iterator.Search.{all_from_yields_List}
use Rattle.zn_words.specs.Meant.{part_meant, parts_left}
use Rattle.zn_words.specs.Parts.{is_fit, parts_of, uses}
use Rattle.zn_words.proofs.parts.has_form.Goals as goal

pub returns-then-all : goal.returns-then-all
returns-then-all c =
    let parts = parts_of c.args.flags.now (map (string_bytes {Z = Global}) c.args.words.now) in
    let fits : c.all.result ≡ list_all is_fit parts =
    all_from_yields_List is_fit c.all.new.self _ c.all.result c.all.ensures.ran (YieldsList-from_first part_meant parts_left parts c.new.ensures.all) (λ x b q k. search (rules, tests)) in
    let once : c.all-then-all.result ≡ list_all (λ flag. nat_le (uses flag parts) 1) c.args.flags.now =
    all_from_yields_List (λ flag. nat_le (uses flag parts) 1) _ _ c.all-then-all.result c.all-then-all.ensures.ran (YieldsList-from_slice c.args.flags.now cc) (λ x b q k. search (rules, tests)) in
    once ∙ ap (λ (b : Bool). b && list_all (λ flag. nat_le (uses flag parts) 1) c.args.flags.now) (sym c.if-all.true ∙ fits)

pub returns-else-all : goal.returns-else-all
returns-else-all c =
    let parts = parts_of c.args.flags.now (map (string_bytes {Z = Global}) c.args.words.now) in
    let fits : c.all.result ≡ list_all is_fit parts =
    all_from_yields_List is_fit c.all.new.self _ c.all.result c.all.ensures.ran (YieldsList-from_first part_meant parts_left parts c.new.ensures.all) (λ x b q k. search (rules, tests)) in
    c.if-all.false ∙ ap (λ (b : Bool). b && list_all (λ flag. nat_le (uses flag parts) 1) c.args.flags.now) (sym c.if-all.false ∙ fits)
