-- The command that `clap` is told.
use Rattle.std.proofs.Common.{◌≡◌, ◌∙◌, ℕ, ◌+◌, ◌<◌, true, List, [], ◌∷◌, get_or, length, take, codes, sym, ap}
use Rattle.std.proofs.lemmas.List.{map-append, take_more}
use Rattle.clap.specs.Simple.{App, app_of, app_of_fields, new_app, with_rule}
use Rattle.clap.specs.Walk.{Rule, Text}
use Rattle.clap.specs.declared.builder.command.Command.{Command}
use Rattle.clap.specs.declared.builder.command.Command.TheOpen.{Command-F}
use Rattle.clap.specs.declared.builder.command.Command.TheViews.{out-Command as fields_of}
use Rattle.zn_words.specs.Clap.{bare_command, dir_command, flag_rule, required_text}
use Rattle.zn_words.specs.declared.flags.Flag.{Flag}

-- a command whose words are all its own, and which has no flag
pub bare_is : (name : Text) (start named bare : Command) → app_of start ≡ new_app name → fields_of named ≡ record (fields_of start) { no_binary_name = true }
    → fields_of bare ≡ record (fields_of named) { disable_help_flag = true } → app_of bare ≡ bare_command name
bare_is name start named bare new first second =
    ap app_of_fields (second ∙ ap (λ (f : Command-F Command). record f { disable_help_flag = true }) first)
    ∙ ap (λ (a : App). record a { top = record a.top { no_binary_name = true; disable_help_flag = true } }) new

-- an option more
pub told_more : (name : Text) (flags : List Flag) (i : ℕ) (d : Flag) → i < length flags → with_rule (dir_command name (take i flags)) (flag_rule (get_or flags i d)) ≡ dir_command name (take (i + 1) flags)
told_more name flags i d below =
    ap (λ (rs : List Rule). let app = bare_command name in let more : App = record app { top = record app.top { rules = rs } } in more)
    (ap (λ (rs : List Rule). required_text (codes "DIR") ∷ rs) (sym (map-append flag_rule (take i flags) (get_or flags i d ∷ []))))
    ∙ ap (dir_command name) (sym (take_more flags i d below))

-- the command with an option more
pub told_next : (name : Text) (flags : List Flag) (i : ℕ) (d : Flag) {app more : App} → i < length flags → more ≡ with_rule app (flag_rule (get_or flags i d))
    → app ≡ dir_command name (take i flags) → more ≡ dir_command name (take (i + 1) flags)
told_next name flags i d below is before =
    is ∙ ap (λ (a : App). with_rule a (flag_rule (get_or flags i d))) before ∙ told_more name flags i d below
