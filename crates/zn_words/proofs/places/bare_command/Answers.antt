use Rattle.std.proofs.Common.{rules, ap₂, codes, ◌≡◌, ◌∙◌}
use Rattle.std.proofs.lemmas.Result.{IfOk-weaker}
use Rattle.clap.specs.Words.{app_of, rule_of, with_rule}
use Rattle.zn_words.specs.Clap.{bare_command, required_text}
use Rattle.zn_words.proofs.Bare.{bare_is}
use Rattle.zn_words.proofs.places.bare_command.Goals as goal

pub returns : goal.returns
returns c =
    let dir : rule_of c.required.result ≡ required_text (codes "DIR") = search rules in
    let bare : app_of c.disable_help_flag.result ≡ bare_command c.args.name.now =
    bare_is c.args.name.now c.new.result c.no_binary_name.result c.disable_help_flag.result c.new.ensures.app c.no_binary_name.ensures c.disable_help_flag.ensures in
    IfOk-weaker c.arg.result _ _ (λ command added. added.shape (search rules) ∙ ap₂ with_rule bare dir) c.arg.ensures
