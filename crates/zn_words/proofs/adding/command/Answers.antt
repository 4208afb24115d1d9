use Rattle.std.proofs.Common.{rules, ap₂, codes, ◌≡◌, ◌∙◌}
use Rattle.std.proofs.lemmas.Result.{IfOk-weaker}
use Rattle.clap.specs.Words.{app_of, rule_of, with_rule}
use Rattle.zn_words.specs.Clap.{bare_command, required_text}
use Rattle.zn_words.specs.KeyPlaces.{required_texts}
use Rattle.zn_words.proofs.Bare.{bare_is}
use Rattle.zn_words.proofs.KeyWords.{more_texts}
use Rattle.zn_words.proofs.adding.command.Goals as goal

pub returns : goal.returns
returns c =
    let dir : rule_of c.required.result ≡ required_text (codes "DIR") = search rules in
    let key : rule_of c.required-2.result ≡ required_text (codes "KEYS") = search rules in
    let keys : rule_of c.num_args.result ≡ required_texts (codes "KEYS") =
    more_texts c.required-2.result c.num_args.result (codes "KEYS") key c.num_args.ensures.0 c.num_args.ensures.1 in
    let bare : app_of c.disable_help_flag.result ≡ bare_command (codes "add") =
    bare_is (codes "add") c.new.result c.no_binary_name.result c.disable_help_flag.result c.new.ensures.app c.no_binary_name.ensures c.disable_help_flag.ensures in
    IfOk-weaker c.arg-2.result _ _
    (λ command added. added.shape (search rules) ∙ ap₂ with_rule (c.in_ok-arg.ensures.shape (search rules) ∙ ap₂ with_rule bare dir) keys)
    c.arg-2.ensures
