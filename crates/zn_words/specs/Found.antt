-- What `clap` finds of a directory and options. (own)
use Rattle.std.specs.Prelude.{◌≡◌, ◌⊎◌, Bool, true, false, Some, None, codes}
use Rattle.clap.specs.Words.{first_value, found_of, one_text}
use Rattle.clap.specs.declared.ArgMatches.{ArgMatches}
use Rattle.zn_words.specs.Parts.{Given, word_of}
use Rattle.zn_words.specs.declared.flags.Flag.TheVariants.{Force, Label, Uuid, Options}

-- what is found of a flag that is set, and of one that isn't: nothing, or its default
abbrev pub FlagFound : ArgMatches → Bool → Type 0
FlagFound found true = one_text (found_of found) (word_of Force) ≡ Some (codes "true")
FlagFound found false =
    (one_text (found_of found) (word_of Force) ≡ None) ⊎ (one_text (found_of found) (word_of Force) ≡ Some (codes "false"))

-- Each place has what is given.
pub record Found (found : ArgMatches) (given : Given) : Type 0 where
  pub dir : first_value (found_of found) (codes "DIR") ≡ Some given.dir
  pub force : FlagFound found given.force
  pub label : first_value (found_of found) (word_of Label) ≡ given.label
  pub uuid : first_value (found_of found) (word_of Uuid) ≡ given.uuid
  pub options : first_value (found_of found) (word_of Options) ≡ given.options
