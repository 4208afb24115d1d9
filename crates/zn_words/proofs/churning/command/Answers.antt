use Rattle.std.proofs.Common.{rules, ap₂, codes, ◌≡◌, ◌∙◌}
use Rattle.std.proofs.lemmas.Result.{IfOk-weaker}
use Rattle.clap.specs.Words.{app_of, rule_of, with_rule}
use Rattle.zn_words.specs.Clap.{bare_command, required_text}
use Rattle.zn_words.proofs.Bare.{bare_is}
use Rattle.zn_words.proofs.churning.command.Goals as goal

pub returns : goal.returns
returns c =
    let seed : rule_of c.required.result ≡ required_text (codes "SEED") = search rules in
    let steps : rule_of c.required-2.result ≡ required_text (codes "STEPS") = search rules in
    let bare : app_of c.disable_help_flag.result ≡ bare_command (codes "churn") =
    bare_is (codes "churn") c.new.result c.no_binary_name.result c.disable_help_flag.result c.new.ensures.app c.no_binary_name.ensures c.disable_help_flag.ensures in
    IfOk-weaker c.arg-2.result _ _
    (λ command added. added.shape (search rules) ∙ ap₂ with_rule (c.in_ok-arg.ensures.shape (search rules) ∙ ap₂ with_rule bare seed) steps)
    c.arg-2.ensures
