use Rattle.std.proofs.Common.{rules, ap₂, codes, ◌≡◌, ◌∙◌}
use Rattle.std.proofs.lemmas.Result.{IfOk-weaker}
use Rattle.clap.specs.Words.{app_of, rule_of, with_rule}
use Rattle.zn_words.specs.Clap.{bare_command, required_text}
use Rattle.zn_words.proofs.Bare.{bare_is}
use Rattle.zn_words.proofs.scratch.command.Goals as goal

pub returns : goal.returns
returns c =
    let zones : rule_of c.required.result ≡ required_text (codes "ZONES") = search rules in
    let conv : rule_of c.required-2.result ≡ required_text (codes "CONV") = search rules in
    let blocks : rule_of c.required-3.result ≡ required_text (codes "BLOCKS") = search rules in
    let bare : app_of c.disable_help_flag.result ≡ bare_command (codes "scratch") =
    bare_is (codes "scratch") c.new.result c.no_binary_name.result c.disable_help_flag.result c.new.ensures.app c.no_binary_name.ensures c.disable_help_flag.ensures in
    IfOk-weaker c.arg-3.result _ _
    (λ command added. added.shape (search rules)
    ∙ ap₂ with_rule (c.in_ok-arg-2.ensures.shape (search rules) ∙ ap₂ with_rule (c.in_ok-arg.ensures.shape (search rules) ∙ ap₂ with_rule bare zones) conv) blocks)
    c.arg-3.ensures
