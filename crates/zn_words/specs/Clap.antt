-- What `clap` is told of a command. (own)
use Rattle.std.specs.Prelude.{ℕ, true, List, ◌∷◌, map, Some, codes}
use Rattle.clap.specs.Words.{App, Rule, new_app, new_rule}
use Rattle.clap.specs.declared.builder.action.ArgAction.{ArgAction}
use Rattle.clap.specs.declared.builder.action.ArgAction.TheVariants.{Set, SetTrue}
use Rattle.zn_words.specs.Parts.{word_of}
use Rattle.zn_words.specs.declared.flags.Flag.{Flag}
use Rattle.zn_words.specs.declared.flags.Flag.TheVariants.{Force, Label, Uuid, Options}

-- a text that must be there, in its place
abbrev pub required_text : List ℕ → Rule
required_text name = record (new_rule name) { required = true }

-- No first word is a program's name, and no flag asks for help.
abbrev pub bare_command : List ℕ → App
bare_command name =
    let app = new_app name in record app { top = record app.top { no_binary_name = true; disable_help_flag = true } }

-- the letter of an option
abbrev pub letter_of : Flag → ℕ
letter_of Force = 102
letter_of Label = 76
letter_of Uuid = 85
letter_of Options = 111

-- an option is set by its value, or else by standing there
abbrev pub action_of : Flag → ArgAction
action_of Force = SetTrue
action_of Label = Set
action_of Uuid = Set
action_of Options = Set

-- an option, which goes by its word
abbrev pub flag_rule : Flag → Rule
flag_rule flag = record (new_rule (word_of flag)) { short = Some (letter_of flag); action = Some (action_of flag) }

-- a command on a directory, with these options
abbrev pub dir_command : List ℕ → List Flag → App
dir_command name flags =
    let app = bare_command name in
    record app { top = record app.top { rules = required_text (codes "DIR") ∷ map flag_rule flags } }
